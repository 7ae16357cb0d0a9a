use Rattle.std.proofs.Common.{◌<◌, arith}
use Rattle.bmp_linear.proofs.SparseRowLemmas.{sparse_row}
use Rattle.bmp_linear.proofs.SparseRowChangeLemmas.{sum_sparse, row_sum}
use Rattle.bmp_linear.proofs.RowChangeLemmas.{numbers_below-added}
use Rattle.bmp_linear.proofs.sparse.SparseRowsRowSpace.add_row.Goals as goal

pub sum_of_entries-requires-clause-first_values : goal.sum_of_entries-requires-clause-first_values
sum_of_entries-requires-clause-first_values g c =
    let row = sparse_row (g.F.Field.size c.args.f.now) c.args.self.now c.self.inside.cols c.self.inside.rows.items
    c.args.into c.index.result.now c.as_slice-first.result.now c.self.view_is c.self.invariant.2 c.self.invariant.3
    c.requires.into c.index.ensures c.as_slice-first.ensures c.requires.numbers in
    row.values

pub sum_of_entries-requires-clause-second_values : goal.sum_of_entries-requires-clause-second_values
sum_of_entries-requires-clause-second_values g c =
    let row = sparse_row (g.F.Field.size c.args.f.now) c.args.self.now c.self.inside.cols c.self.inside.rows.items
    c.args.from c.index-2.result.now c.as_slice-second.result.now c.self.view_is c.self.invariant.2
    c.self.invariant.3 c.requires.from c.index-2.ensures c.as_slice-second.ensures c.requires.numbers in
    row.values

pub invariant_of-self-2 : goal.invariant_of-self-2
invariant_of-self-2 g c =
    let p = g.F.Field.size c.args.f.now in
    let first = sparse_row p c.args.self.now c.self.inside.cols c.self.inside.rows.items c.args.into c.index.result.now
    c.as_slice-first.result.now c.self.view_is c.self.invariant.2 c.self.invariant.3 c.requires.into c.index.ensures
    c.as_slice-first.ensures c.requires.numbers in
    let second = sparse_row p c.args.self.now c.self.inside.cols c.self.inside.rows.items c.args.from
    c.index-2.result.now c.as_slice-second.result.now c.self.view_is c.self.invariant.2 c.self.invariant.3
    c.requires.from c.index-2.ensures c.as_slice-second.ensures c.requires.numbers in
    sum_sparse c.args.self.now c.self.inside.cols c.self.inside.rows.items c.self.view_is c.args.into c.swap.new.x
    c.requires.into p (g.F.Field.num c.args.f.now c.args.c) c.args.from c.as_slice-first.result.now
    c.as_slice-second.result.now
    first second (rw c.swap.ensures.x_after c.in_ok-sum_of_entries.ensures) c.self.invariant

pub returns-clause-ok : goal.returns-clause-ok
returns-clause-ok g c =
    let p = g.F.Field.size c.args.f.now in
    let first = sparse_row p c.args.self.now c.self.inside.cols c.self.inside.rows.items c.args.into c.index.result.now
    c.as_slice-first.result.now c.self.view_is c.self.invariant.2 c.self.invariant.3 c.requires.into c.index.ensures
    c.as_slice-first.ensures c.requires.numbers in
    let second = sparse_row p c.args.self.now c.self.inside.cols c.self.inside.rows.items c.args.from
    c.index-2.result.now c.as_slice-second.result.now c.self.view_is c.self.invariant.2 c.self.invariant.3
    c.requires.from c.index-2.ensures c.as_slice-second.ensures c.requires.numbers in
    row_sum c.args.self.now c.self.inside.cols c.self.inside.rows.items c.self.view_is c.args.into c.swap.new.x
    c.requires.into p (g.F.Field.num c.args.f.now c.args.c) c.args.from c.as_slice-first.result.now
    c.as_slice-second.result.now
    first second (rw c.swap.ensures.x_after c.in_ok-sum_of_entries.ensures)

pub returns-clause-numbers : goal.returns-clause-numbers
returns-clause-numbers g c =
    let two = g.met.F.Field.laws.at_least_two c.args.f.now in
    let some : 0 < g.F.Field.size c.args.f.now = omega (arith, two) in
    numbers_below-added (g.F.Field.size c.args.f.now) _ _ c.args.into c.args.from _ some c.requires.numbers
    (returns-clause-ok g c)
