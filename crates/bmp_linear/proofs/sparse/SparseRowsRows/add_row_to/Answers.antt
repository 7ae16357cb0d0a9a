use Rattle.bmp_linear.proofs.SparseRowLemmas.{sparse_row, row_added}
use Rattle.bmp_linear.proofs.sparse.SparseRowsRows.add_row_to.Goals as goal

pub add_entries-requires-clause-values : goal.add_entries-requires-clause-values
add_entries-requires-clause-values g c =
    let row = sparse_row (g.F.Field.size c.args.f.now) c.args.self.now c.self.inside.cols c.self.inside.rows.items
    c.args.i c.index-row.result.now c.as_slice.result.now c.self.view_is c.self.invariant.2 c.self.invariant.3
    c.requires.row c.index-row.ensures c.as_slice.ensures c.requires.numbers in
    row.values

pub returns : goal.returns
returns g c =
    let row = sparse_row (g.F.Field.size c.args.f.now) c.args.self.now c.self.inside.cols c.self.inside.rows.items
    c.args.i c.index-row.result.now c.as_slice.result.now c.self.view_is c.self.invariant.2 c.self.invariant.3
    c.requires.row c.index-row.ensures c.as_slice.ensures c.requires.numbers in
    row_added (g.F.Field.size c.args.f.now) c.args.self.now c.args.i c.as_slice.result.now row
    (g.F.Field.num c.args.f.now c.args.c) c.args.sums.now c.add_entries.new.sums c.requires.sums
    c.add_entries.ensures
