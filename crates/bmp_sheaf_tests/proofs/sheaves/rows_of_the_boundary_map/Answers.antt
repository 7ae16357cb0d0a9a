use Rattle.std.proofs.Common.{◌≡◌, ℕ, sym, ap, subst, ◌∙◌}
use Rattle.bmp_math.specs.Matrices.{NumbersBelow}
use Rattle.bmp_field.specs.PrimeFields.{size_of}
use Rattle.bmp_sheaf.specs.Fields.{IsOverField}
use Rattle.bmp_sheaf.specs.Numbers.{boundary_matrix}
use Rattle.bmp_sheaf.specs.States.{SheafState, sheaf_of}
use Rattle.bmp_sheaf.proofs.BoundaryMaps.{boundary_numbers_below}
use Rattle.bmp_sheaf_tests.proofs.sheaves.rows_of_the_boundary_map.Goals as goal

rows_below : {F : Type 0} (s t : SheafState F) (x d p : ℕ) → IsOverField s.graph → t ≡ s → p ≡ s.graph.prime →
    NumbersBelow p (boundary_matrix t.graph (sheaf_of t) x d)
rows_below {F = F} s t x d p over same prime =
    subst (λ (z : SheafState F). NumbersBelow p (boundary_matrix z.graph (sheaf_of z) x d)) (sym same)
    (subst (λ q. NumbersBelow q (boundary_matrix s.graph (sheaf_of s) x d)) (sym prime)
    (boundary_numbers_below s.graph over (sheaf_of s) x d))

pub has_column-requires : goal.has_column-requires
has_column-requires g c =
    let rows = c.of-rows.result in
    rows_below c.in_ok-sheaf.sheaf rows.sheaf.now rows.vertex rows.degree (size_of c.field.result.now)
    c.graph.ensures.state.over c.of-rows.ensures.sheaf (ap size_of c.field.ensures.field ∙ c.field.ensures.size)
