-- Lengths are those of the Cartan matrix, whatever the order of its positive roots, as statements.
--   WordHasOneLength       two lists of the positive roots give each word the same length
--   ElementHasOneLength    and each element
use Rattle.std.specs.Prelude.{◌≡◌, ℕ, List}
use Rattle.bmp_roots.specs.RootPairs.{CartanMatrix, Vector}
use Rattle.bmp_roots.specs.PositiveRoots.{ArePositiveRoots}
use Rattle.bmp_weyl.specs.Words.{length_of}
use Rattle.bmp_weyl.specs.Elements.{element_length}
use Rattle.bmp_weyl.specs.declared.elem.Elem.{Elem}

abbrev pub WordHasOneLength : Type 0
WordHasOneLength = (m : CartanMatrix) (roots others : List Vector) → ArePositiveRoots m roots →
    ArePositiveRoots m others
    → (u : List ℕ) → length_of m roots u ≡ length_of m others u

abbrev pub ElementHasOneLength : Type 0
ElementHasOneLength = (m : CartanMatrix) (roots others : List Vector) → ArePositiveRoots m roots →
    ArePositiveRoots m others
    → (e : Elem) → element_length roots e ≡ element_length others e
