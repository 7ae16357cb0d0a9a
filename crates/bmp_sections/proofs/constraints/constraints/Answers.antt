use Rattle.std.proofs.Common.{◌∙◌, refl, ap}
use Rattle.bmp_linear.specs.RowTables.{matrix_of_entries}
use Rattle.bmp_sheaf.specs.States.{sheaf_of}
use Rattle.bmp_sheaf.proofs.SameMatrices.{numbers_below_same}
use Rattle.bmp_sections.proofs.EdgeFaultLemmas.{matrix_is, matrix_below}
use Rattle.bmp_sections.proofs.constraints.constraints.Goals as goal

pub stored-requires : goal.stored-requires
stored-requires g c =
    let s = c.args.sheaf.now in
    let rows = c.over-rows.result in
    let matrix = matrix_is rows.sheaf.now s rows.vertex c.args.x rows.degree c.args.d c.over-rows.ensures.sheaf
    c.over-rows.ensures.vertex c.over-rows.ensures.degree in
    let size = ap g.F.Field.size c.field-f.ensures.field ∙ c.field-f.ensures.size in
    matrix_below s.graph (sheaf_of s) c.args.x c.args.d c.graph.ensures.state.over _
    (g.F.Field.size c.field-f.result.now) matrix size

pub returns-clause-numbers : goal.returns-clause-numbers
returns-clause-numbers g c =
    let s = c.args.sheaf.now in
    let rows = c.over-rows.result in
    let matrix = matrix_is rows.sheaf.now s rows.vertex c.args.x rows.degree c.args.d c.over-rows.ensures.sheaf
    c.over-rows.ensures.vertex c.over-rows.ensures.degree in
    numbers_below_same (matrix_of_entries c.in_ok-stored.field-0) _ c.in_ok-stored.ensures s.graph.prime
    (matrix_below s.graph (sheaf_of s) c.args.x c.args.d c.graph.ensures.state.over _ s.graph.prime matrix refl)
