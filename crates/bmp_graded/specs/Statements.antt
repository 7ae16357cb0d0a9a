-- The laws, as statements. A linear form is its coordinates, numbers below p, the l-th being the first that is not 0.
--   FreeModulesAreModules             free modules meet the laws of a module
--   QuotientsAreModules               so do free modules modulo a linear form
--   DirectSumsAreModules              so do direct sums of modules
--   NormalFormsAreNormal              `normal_by` makes normal forms
--   ProjectionsAreMaps                sending an element to itself modulo a linear form is a module map
--   ExtensionsAreMaps                 the map that given images of the generators determine is a module map
--   ExtensionsSendGenerators          and sends each generator to its image
--   MapsAreDetermined                 module maps from a free module that agree on the generators are the same
--   QuotientEqualityIsDivisibility    elements are equal in the quotient exactly where the linear form divides each
--                                     component of their difference
--   LineModuloItsVariable             the free module in one variable over two elements with generators of degrees 0
--                                     and 1, modulo the variable, has dimensions 1, 1 and 0 in degrees 0, 1 and 2
use Rattle.std.specs.Prelude.{◌≡◌, [], ◌∷◌, ◌↔◌, ℕ, ◌-◌, ◌<◌, ◌≤◌, List, length, slice_index}
use Rattle.std.specs.List.{All}
use Rattle.bmp_math.specs.Vectors.{SameVector}
use Rattle.bmp_poly.specs.Forms.{Form, IsNormalForm}
use Rattle.bmp_poly.specs.Coordinates.{IsLeading}
use Rattle.bmp_graded.specs.Graded.{Graded, IsModule, IsModuleMap}
use Rattle.bmp_graded.specs.Modules.{free, direct_sum}
use Rattle.bmp_graded.specs.NormalForms.{HasInverses, normal_by}
use Rattle.bmp_graded.specs.Quotients.{quotient}
use Rattle.bmp_graded.specs.Maps.{projection, extension}
use Rattle.bmp_graded.specs.Components.{IsGenerator, IsSameModulo}

abbrev pub FreeModulesAreModules : Type 0
FreeModulesAreModules = (p r : ℕ) (degrees : List ℕ) → r ≤ 6 → IsModule p r (free r degrees)

abbrev pub QuotientsAreModules : Type 0
QuotientsAreModules = (p r l : ℕ) (coords degrees : List ℕ) → 2 ≤ p → HasInverses p → IsLeading p r l coords
    → IsModule p r (quotient p (r - 1) l (slice_index coords) degrees)

abbrev pub DirectSumsAreModules : Type 0
DirectSumsAreModules = (p r : ℕ) (Ms : List Graded) → All (IsModule p r) Ms → IsModule p r (direct_sum Ms)

abbrev pub NormalFormsAreNormal : Type 0
NormalFormsAreNormal = (p r l : ℕ) (coords : List ℕ) (d : ℕ) (a : Form) → 2 ≤ p → HasInverses p → IsLeading p r l coords
    → IsNormalForm p 6 r d (slice_index coords) l a (normal_by p r l (slice_index coords) d a)

abbrev pub ProjectionsAreMaps : Type 0
ProjectionsAreMaps = (p r l : ℕ) (coords degrees : List ℕ) → 2 ≤ p → HasInverses p → IsLeading p r l coords
    → IsModuleMap p r (free r degrees) (quotient p (r - 1) l (slice_index coords) degrees)
    (projection p (r - 1) l (slice_index coords) degrees)

abbrev pub ExtensionsAreMaps : Type 0
ExtensionsAreMaps = (p r : ℕ) (M : Graded) (degrees : List ℕ) (images : ℕ → ℕ → ℕ) → r ≤ 6 → IsModule p r M
    → IsModuleMap p r (free r degrees) M (extension r M degrees images)

-- v has the coordinates of the generator g
abbrev pub ExtensionsSendGenerators : Type 0
ExtensionsSendGenerators = (p r g : ℕ) (M : Graded) (degrees : List ℕ) (images : ℕ → ℕ → ℕ) (v : ℕ → ℕ)
    → r ≤ 6 → IsModule p r M → g < length degrees → IsGenerator r degrees g v
    → SameVector p (M.dim (slice_index degrees g)) (extension r M degrees images (slice_index degrees g) v) (images g)

-- v g has the coordinates of the generator g
abbrev pub MapsAreDetermined : Type 0
MapsAreDetermined = (p r : ℕ) (M : Graded) (degrees : List ℕ) (map map' : ℕ → (ℕ → ℕ) → ℕ → ℕ) (v : ℕ → ℕ → ℕ)
    → r ≤ 6 → IsModule p r M → IsModuleMap p r (free r degrees) M map → IsModuleMap p r (free r degrees) M map'
    → ((g : ℕ) → g < length degrees → IsGenerator r degrees g (v g)
    × SameVector p (M.dim (slice_index degrees g)) (map (slice_index degrees g) (v g))
    (map' (slice_index degrees g) (v g)))
    → (d : ℕ) (u : ℕ → ℕ) → SameVector p (M.dim d) (map d u) (map' d u)

abbrev pub QuotientEqualityIsDivisibility : Type 0
QuotientEqualityIsDivisibility = (p r l : ℕ) (coords degrees : List ℕ) (d : ℕ) (u v : ℕ → ℕ)
    → 2 ≤ p → HasInverses p → IsLeading p r l coords
    → SameVector p ((quotient p (r - 1) l (slice_index coords) degrees).dim d)
    (projection p (r - 1) l (slice_index coords) degrees d u) (projection p (r - 1) l (slice_index coords) degrees d v)
    ↔ IsSameModulo p r (slice_index coords) degrees d u v

abbrev pub LineModuloItsVariable : Type 0
LineModuloItsVariable = let M = quotient 2 0 0 (slice_index (1 ∷ 0 ∷ 0 ∷ 0 ∷ 0 ∷ 0 ∷ [])) (0 ∷ 1 ∷ []) in
    (M.dim 0 ≡ 1) × (M.dim 1 ≡ 1) × (M.dim 2 ≡ 0)
