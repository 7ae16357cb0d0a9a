-- The laws of products with one simple reflection on the right, as statements.
--   TimesIsProduct      the product of an element with a simple reflection, by words
--   LetterTwiceCancels  the same letter twice behind a word leaves its product as it was
--   TimesTwiceCancels   the same simple reflection twice behind an element leaves it as it was
--   DescentTurns        of an element and its product with a simple reflection one is shorter, by one
--   OneDescentWord      a product has one word of least right descents
use Rattle.std.specs.Prelude.{◌≡◌, ℕ, ◌+◌, ◌<◌, List, [], ◌∷◌, ◌++◌, true, false}
use Rattle.bmp_roots.specs.RootPairs.{CartanMatrix, Vector}
use Rattle.bmp_weyl.specs.Words.{IsWord, acts, IsRootSystem, IsDescentWord}
use Rattle.bmp_weyl.specs.Elements.{IsProduct, IsElement, element_length}
use Rattle.bmp_weyl.specs.SimpleProducts.{times_simple, has_negative_column}
use Rattle.bmp_weyl.specs.declared.elem.Elem.{Elem}

abbrev pub TimesIsProduct : Type 0
TimesIsProduct = (m : CartanMatrix) (roots : List Vector) → IsRootSystem m roots
    → (u : List ℕ) (x : Elem) (k : ℕ) → k < m.rank → IsProduct m u x → IsProduct m (u ++ k ∷ []) (times_simple m x k)

abbrev pub LetterTwiceCancels : Type 0
LetterTwiceCancels = (m : CartanMatrix) (roots : List Vector) → IsRootSystem m roots
    → (u : List ℕ) (k : ℕ) → k < m.rank → acts m (u ++ k ∷ k ∷ []) ≡ acts m u

abbrev pub TimesTwiceCancels : Type 0
TimesTwiceCancels = (m : CartanMatrix) (roots : List Vector) → IsRootSystem m roots
    → (x : Elem) (k : ℕ) → k < m.rank → IsElement m x → times_simple m (times_simple m x k) k ≡ x

abbrev pub DescentTurns : Type 0
DescentTurns = (m : CartanMatrix) (roots : List Vector) → IsRootSystem m roots
    → (x : Elem) (k : ℕ) → k < m.rank → IsElement m x
    → (has_negative_column m x k ≡ true → element_length roots (times_simple m x k) + 1 ≡ element_length roots x)
    × (has_negative_column m x k ≡ false → element_length roots (times_simple m x k) ≡ element_length roots x + 1)

abbrev pub OneDescentWord : Type 0
OneDescentWord = (m : CartanMatrix) (roots : List Vector) → IsRootSystem m roots
    → (u w : List ℕ) → IsWord m u → IsWord m w → IsDescentWord m roots u → IsDescentWord m roots w
    → acts m u ≡ acts m w → u ≡ w
