use Rattle.bmp_linear.proofs.SparseRowLemmas.{sparse_row, row_product}
use Rattle.bmp_linear.proofs.sparse.SparseRowsRows.value_at.Goals as goal

pub product-requires-clause-row_rising : goal.product-requires-clause-row_rising
product-requires-clause-row_rising g c =
    let row = sparse_row (g.F.Field.size c.args.f.now) c.args.self.now c.self.inside.cols c.self.inside.rows.items
    c.args.i c.index-row.result.now c.as_slice.result.now c.self.view_is c.self.invariant.2 c.self.invariant.3
    c.requires.row c.index-row.ensures c.as_slice.ensures c.requires.numbers in
    row.sparse.rising

pub product-requires-clause-row_values : goal.product-requires-clause-row_values
product-requires-clause-row_values g c =
    let row = sparse_row (g.F.Field.size c.args.f.now) c.args.self.now c.self.inside.cols c.self.inside.rows.items
    c.args.i c.index-row.result.now c.as_slice.result.now c.self.view_is c.self.invariant.2 c.self.invariant.3
    c.requires.row c.index-row.ensures c.as_slice.ensures c.requires.numbers in
    row.values

pub returns-clause-number : goal.returns-clause-number
returns-clause-number g c =
    let row = sparse_row (g.F.Field.size c.args.f.now) c.args.self.now c.self.inside.cols c.self.inside.rows.items
    c.args.i c.index-row.result.now c.as_slice.result.now c.self.view_is c.self.invariant.2 c.self.invariant.3
    c.requires.row c.index-row.ensures c.as_slice.ensures c.requires.numbers in
    row_product (g.F.Field.size c.args.f.now) c.args.self.now c.args.i c.as_slice.result.now row c.args.vector.now _
    (rw c.entries.ensures.items at c.product.ensures.number)
