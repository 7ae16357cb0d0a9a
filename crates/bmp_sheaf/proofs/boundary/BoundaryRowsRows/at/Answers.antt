use Rattle.std.proofs.Common.{◌∙◌}
use Rattle.bmp_linear.specs.RowTables.{matrix_of_entries}
use Rattle.bmp_sheaf.specs.States.{sheaf_of}
use Rattle.bmp_sheaf.proofs.BoundaryRowLemmas.{edge_rows_below, entry_is}
use Rattle.bmp_sheaf.proofs.boundary.BoundaryRowsRows.at.Goals as goal

pub at-requires-clause-numbers : goal.at-requires-clause-numbers
at-requires-clause-numbers g c =
    let t = c.args.self.now in
    let s = t.sheaf.now in
    edge_rows_below s.graph c.lower_rows.ensures.state.over (sheaf_of s) t.vertex t.degree c.edge_of-e.result.0
    c.edge_of-e.ensures.edge c.edge_of-e.ensures.starts
    (matrix_of_entries c.lower_rows.result.now) c.lower_rows.ensures.matrix (g.F.Field.size c.args.f.now)
    c.requires.numbers

pub returns-clause-number : goal.returns-clause-number
returns-clause-number g c =
    let t = c.args.self.now in
    let s = t.sheaf.now in
    c.at.ensures.number
    ∙ entry_is s.graph c.lower_rows.ensures.state.over (sheaf_of s) t.vertex t.degree c.edge_of-e.result.0
    c.edge_of-e.ensures.edge c.edge_of-e.ensures.starts
    (matrix_of_entries c.lower_rows.result.now) c.lower_rows.ensures.matrix c.args.i c.edge_of-e.result.1
    c.edge_of-e.ensures.inside c.edge_of-e.ensures.place c.args.j c.requires.column
