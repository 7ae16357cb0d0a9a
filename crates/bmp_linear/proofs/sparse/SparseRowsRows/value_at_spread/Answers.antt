use Rattle.std.proofs.Common.{arith}
use Rattle.bmp_linear.proofs.SparseRowLemmas.{sparse_row, spread_below, row_value}
use Rattle.bmp_linear.proofs.sparse.SparseRowsRows.value_at_spread.Goals as goal

pub value_of-requires-clause-values : goal.value_of-requires-clause-values
value_of-requires-clause-values g c =
    let row = sparse_row (g.F.Field.size c.args.f.now) c.args.self.now c.self.inside.cols c.self.inside.rows.items
    c.args.i c.index-row.result.now c.as_slice.result.now c.self.view_is c.self.invariant.2 c.self.invariant.3
    c.requires.row c.index-row.ensures c.as_slice.ensures c.requires.numbers in
    row.values

pub value_of-requires-clause-numbers : goal.value_of-requires-clause-numbers
value_of-requires-clause-numbers g c =
    let two = g.met.F.Field.laws.at_least_two c.args.f.now in
    let row = sparse_row (g.F.Field.size c.args.f.now) c.args.self.now c.self.inside.cols c.self.inside.rows.items
    c.args.i c.index-row.result.now c.as_slice.result.now c.self.view_is c.self.invariant.2 c.self.invariant.3
    c.requires.row c.index-row.ensures c.as_slice.ensures c.requires.numbers in
    spread_below (g.F.Field.size c.args.f.now) c.args.self.now c.args.i c.as_slice.result.now row c.args.vector.now
    c.args.spread.now (omega (arith, two)) c.requires.values c.requires.spread

pub returns-clause-number : goal.returns-clause-number
returns-clause-number g c =
    let row = sparse_row (g.F.Field.size c.args.f.now) c.args.self.now c.self.inside.cols c.self.inside.rows.items
    c.args.i c.index-row.result.now c.as_slice.result.now c.self.view_is c.self.invariant.2 c.self.invariant.3
    c.requires.row c.index-row.ensures c.as_slice.ensures c.requires.numbers in
    row_value (g.F.Field.size c.args.f.now) c.args.self.now c.args.i c.as_slice.result.now row c.args.vector.now
    c.args.spread.now _ c.requires.spread c.value_of.ensures.number
