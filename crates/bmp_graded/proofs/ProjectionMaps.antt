-- Sending an element of a free module to itself modulo a linear form is a module map.
use Rattle.std.proofs.Common.{◌≡◌, ℕ, suc, ◌*◌, ◌-◌, ◌≤◌, List, get_or, arith}
use Rattle.bmp_math.specs.Congruences.{SameMod}
use Rattle.bmp_poly.specs.Forms.{IsLabel}
use Rattle.bmp_poly.specs.Coordinates.{IsLeading}
use Rattle.bmp_graded.specs.Graded.{IsModuleMap}
use Rattle.bmp_graded.specs.Modules.{polynomials, free}
use Rattle.bmp_graded.specs.NormalForms.{HasInverses, inverse_below, normal_by}
use Rattle.bmp_graded.specs.Quotients.{reduced, quotient}
use Rattle.bmp_graded.specs.Maps.{project_one, projection}
use Rattle.bmp_graded.specs.Statements.{ProjectionsAreMaps}
use Rattle.bmp_graded.proofs.ReducedLaws.{reduced_is_module, project_is_map}
use Rattle.bmp_graded.proofs.PassLaws.{normal_by_is, label_cases}
use Rattle.bmp_graded.proofs.ModuleMaps.{copies_map}

pub projection_map : (q r l : ℕ) (c : ℕ → ℕ) (degrees : List ℕ) → IsLabel (suc q) (suc r) c l → suc r ≤ 6 →
    SameMod (suc q) (inverse_below (suc q) (c l) (suc q) * c l) 1 →
    IsModuleMap (suc q) (suc r) (free (suc r) degrees) (quotient (suc q) r l c degrees)
    (projection (suc q) r l c degrees)
projection_map q r l c degrees label wide one =
    copies_map (suc q) (suc r) (polynomials (suc r)) (reduced r l (normal_by (suc q) (suc r) l c))
    (project_one (suc q) r l c) degrees
    (reduced_is_module q r l c label wide (normal_by (suc q) (suc r) l c) (normal_by_is q r l c label wide one))
    (project_is_map q r l c label wide (normal_by (suc q) (suc r) l c) (normal_by_is q r l c label wide one))

pub projections_are_maps : ProjectionsAreMaps
projections_are_maps p r l coords degrees two inverses leads =
    label_cases (λ p r. IsModuleMap p r (free r degrees) (quotient p (r - 1) l (λ k. get_or coords k 0) degrees)
    (projection p (r - 1) l (λ k. get_or coords k 0) degrees)) p r l coords two inverses leads
    (λ q r label wide one. let less_one : suc r - 1 ≡ r = omega arith in
    rw less_one (projection_map q r l (λ k. get_or coords k 0) degrees label wide one))

pub projection_over : (p s r r' l : ℕ) (coords degrees : List ℕ) → p ≡ s → r ≡ r' → 2 ≤ p → HasInverses p →
    IsLeading s r' l coords → IsModuleMap p r (free r degrees) (quotient s (r' - 1) l (λ k. get_or coords k 0) degrees)
    (projection s (r' - 1) l (λ k. get_or coords k 0) degrees)
projection_over p s r r' l coords degrees same ranks two inverses leads =
    rw (ranks, ← same) (projections_are_maps p r' l coords degrees two inverses (rw (← same) at leads))

-- one component
pub project_over : (p s r l : ℕ) (coords : List ℕ) → p ≡ s → 2 ≤ p → HasInverses p → IsLeading s r l coords →
    IsModuleMap p r (polynomials (suc (r - 1)))
    (reduced (r - 1) l (normal_by s (suc (r - 1)) l (λ k. get_or coords k 0)))
    (project_one s (r - 1) l (λ k. get_or coords k 0))
project_over p s r l coords same two inverses leads =
    rw (← same) (label_cases
    (λ p r. IsModuleMap p r (polynomials (suc (r - 1)))
    (reduced (r - 1) l (normal_by p (suc (r - 1)) l (λ k. get_or coords k 0)))
    (project_one p (r - 1) l (λ k. get_or coords k 0))) p r l coords two inverses (rw (← same) at leads)
    (λ q r label wide one. let less_one : suc r - 1 ≡ r = omega arith in
    rw less_one (project_is_map q r l (λ k. get_or coords k 0) label wide
    (normal_by (suc q) (suc r) l (λ k. get_or coords k 0))
    (normal_by_is q r l (λ k. get_or coords k 0) label wide one))))
