use Rattle.std.proofs.Common.{◌<◌, arith}
use Rattle.bmp_linear.proofs.SparseRowLemmas.{sparse_row}
use Rattle.bmp_linear.proofs.SparseRowChangeLemmas.{written_times, times_sparse_rows, row_times}
use Rattle.bmp_linear.proofs.RowChangeLemmas.{numbers_below-multiplied}
use Rattle.bmp_linear.proofs.sparse.SparseRowsRowSpace.scale_row.Goals as goal

pub scale_entries-requires-clause-values : goal.scale_entries-requires-clause-values
scale_entries-requires-clause-values g c =
    let row = sparse_row (g.F.Field.size c.args.f.now) c.args.self.now c.self.inside.cols c.self.inside.rows.items
    c.args.i c.index_mut-row.result.now c.as_mut_slice.result.now c.self.view_is c.self.invariant.2
    c.self.invariant.3 c.requires.row c.index_mut-row.ensures.value c.as_mut_slice.ensures.value
    c.requires.numbers in
    row.values

pub invariant_of-self : goal.invariant_of-self
invariant_of-self g c =
    let p = g.F.Field.size c.args.f.now in
    let factor = g.F.Field.num c.args.f.now c.args.c in
    let inverse = g.met.F.Field.laws.inverse c.args.f.now factor
    (g.met.F.Field.laws.below_size c.args.f.now c.args.c c.requires.factor) c.requires.not_zero in
    let row = sparse_row p c.args.self.now c.self.inside.cols c.self.inside.rows.items c.args.i
    c.index_mut-row.result.now c.as_mut_slice.result.now c.self.view_is c.self.invariant.2 c.self.invariant.3
    c.requires.row c.index_mut-row.ensures.value c.as_mut_slice.ensures.value c.requires.numbers in
    times_sparse_rows c.args.self.now c.self.inside.cols c.self.inside.rows.items c.self.view_is c.args.i _
    c.requires.row p factor inverse.0 c.as_mut_slice.result.now (g.met.F.Field.laws.at_least_two c.args.f.now)
    inverse.2 row
    (written_times p factor c.index_mut-row.result.now c.as_mut_slice.result.now c.scale_entries.new.entries
    c.as_mut_slice.ensures.value c.scale_entries.ensures) c.self.invariant

pub returns-clause-multiplied : goal.returns-clause-multiplied
returns-clause-multiplied g c =
    let p = g.F.Field.size c.args.f.now in
    let factor = g.F.Field.num c.args.f.now c.args.c in
    let row = sparse_row p c.args.self.now c.self.inside.cols c.self.inside.rows.items c.args.i
    c.index_mut-row.result.now c.as_mut_slice.result.now c.self.view_is c.self.invariant.2 c.self.invariant.3
    c.requires.row c.index_mut-row.ensures.value c.as_mut_slice.ensures.value c.requires.numbers in
    row_times c.args.self.now c.self.inside.cols c.self.inside.rows.items c.self.view_is c.args.i _ c.requires.row p
    factor c.as_mut_slice.result.now row
    (written_times p factor c.index_mut-row.result.now c.as_mut_slice.result.now c.scale_entries.new.entries
    c.as_mut_slice.ensures.value c.scale_entries.ensures)

pub returns-clause-numbers : goal.returns-clause-numbers
returns-clause-numbers g c =
    let two = g.met.F.Field.laws.at_least_two c.args.f.now in
    let some : 0 < g.F.Field.size c.args.f.now = omega (arith, two) in
    numbers_below-multiplied (g.F.Field.size c.args.f.now) _ _ c.args.i _ some c.requires.numbers
    (returns-clause-multiplied g c)
