-- The laws of elements, as statements.
--   RootsAreSystem            a `Roots` has the system of its matrix, and its positive roots are the positive roots
--   ElementsOfEqualProducts   two elements are the same exactly where the products of their words are
--   LengthOfElement           an element makes as many positive roots negative as the product of its word
use Rattle.std.specs.Prelude.{◌≡◌, ◌↔◌, ℕ, List}
use Rattle.bmp_roots.specs.RootPairs.{CartanMatrix, Vector, HasCartanForm}
use Rattle.bmp_roots.specs.RootSystems.{matrix_of, positive_roots_of}
use Rattle.bmp_roots.specs.declared.root_system.Roots.{Roots}
use Rattle.bmp_weyl.specs.Words.{acts, IsRootSystem, length_of}
use Rattle.bmp_weyl.specs.Elements.{IsProduct, element_length}
use Rattle.bmp_weyl.specs.declared.elem.Elem.{Elem}

abbrev pub RootsAreSystem : Type 0
RootsAreSystem = (roots : Roots) → IsRootSystem (matrix_of roots) (positive_roots_of roots)

abbrev pub ElementsOfEqualProducts : Type 0
ElementsOfEqualProducts = (m : CartanMatrix) → HasCartanForm m → (u w : List ℕ) (x y : Elem)
    → IsProduct m u x → IsProduct m w y → (x ≡ y) ↔ (acts m u ≡ acts m w)

abbrev pub LengthOfElement : Type 0
LengthOfElement = (m : CartanMatrix) (roots : List Vector) → IsRootSystem m roots
    → (u : List ℕ) (e : Elem) → IsProduct m u e → element_length roots e ≡ length_of m roots u
