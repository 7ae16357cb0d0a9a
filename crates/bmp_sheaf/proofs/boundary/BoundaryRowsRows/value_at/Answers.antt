use Rattle.std.proofs.Common.{◌%◌, ap, ◌∙◌}
use Rattle.bmp_linear.specs.SparseVectors.{number_at}
use Rattle.bmp_linear.specs.RowTables.{matrix_of_entries}
use Rattle.bmp_sheaf.specs.States.{sheaf_of}
use Rattle.bmp_sheaf.proofs.BoundaryRowLemmas.{edge_rows_below, image_is}
use Rattle.bmp_sheaf.proofs.boundary.BoundaryRowsRows.value_at.Goals as goal

pub value_at-requires-clause-numbers : goal.value_at-requires-clause-numbers
value_at-requires-clause-numbers g c =
    let t = c.args.self.now in
    let s = t.sheaf.now in
    edge_rows_below s.graph c.lower_rows.ensures.state.over (sheaf_of s) t.vertex t.degree c.edge_of-e.result.0
    c.edge_of-e.ensures.edge c.edge_of-e.ensures.starts
    (matrix_of_entries c.lower_rows.result.now) c.lower_rows.ensures.matrix (g.F.Field.size c.args.f.now)
    c.requires.numbers

pub returns-clause-number : goal.returns-clause-number
returns-clause-number g c =
    let t = c.args.self.now in
    let s = t.sheaf.now in
    c.value_at.ensures.number
    ∙ ap (λ z. z % g.F.Field.size c.args.f.now)
    (image_is s.graph c.lower_rows.ensures.state.over (sheaf_of s) t.vertex t.degree c.edge_of-e.result.0
    c.edge_of-e.ensures.edge c.edge_of-e.ensures.starts
    (matrix_of_entries c.lower_rows.result.now) c.lower_rows.ensures.matrix c.args.i c.edge_of-e.result.1
    c.edge_of-e.ensures.inside c.edge_of-e.ensures.place (number_at c.args.vector.now))
