use Rattle.bmp_linear.specs.RowTables.{matrix_of_entries}
use Rattle.bmp_sheaf.specs.States.{sheaf_of}
use Rattle.bmp_sheaf.proofs.BoundaryRowLemmas.{edge_rows_below, row_added}
use Rattle.bmp_sheaf.proofs.boundary.BoundaryRowsRows.add_row_to.Goals as goal

pub add_row_to-requires-clause-numbers : goal.add_row_to-requires-clause-numbers
add_row_to-requires-clause-numbers g c =
    let t = c.args.self.now in
    let s = t.sheaf.now in
    edge_rows_below s.graph c.lower_rows.ensures.state.over (sheaf_of s) t.vertex t.degree c.edge_of-e.result.0
    c.edge_of-e.ensures.edge c.edge_of-e.ensures.starts
    (matrix_of_entries c.lower_rows.result.now) c.lower_rows.ensures.matrix (g.F.Field.size c.args.f.now)
    c.requires.numbers

pub returns : goal.returns
returns g c =
    let t = c.args.self.now in
    let s = t.sheaf.now in
    row_added s.graph c.lower_rows.ensures.state.over (sheaf_of s) t.vertex t.degree c.edge_of-e.result.0
    c.edge_of-e.ensures.edge c.edge_of-e.ensures.starts
    (matrix_of_entries c.lower_rows.result.now) c.lower_rows.ensures.matrix c.args.i c.edge_of-e.result.1
    c.edge_of-e.ensures.inside c.edge_of-e.ensures.place (g.F.Field.size c.args.f.now)
    (g.F.Field.num c.args.f.now c.args.c) _ _ c.add_row_to.ensures
