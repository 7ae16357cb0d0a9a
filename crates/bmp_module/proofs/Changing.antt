-- Coordinates that are compared one after another.
use Rattle.std.proofs.Common.{◌≡◌, ℕ, ◌+◌, ◌<◌, List, length, get_or, sym, ap, ◌∙◌, inl, inr, arith}
use Rattle.std.proofs.lemmas.Bool.{cases_eq}
use Rattle.bmp_poly.specs.Coefficients.{coefficient}
use Rattle.bmp_poly.proofs.CoefficientLemmas.{coefficient_read}

-- the numbers at n agree, where those of the values read there do
pub same_here : {E : Type 0} (num : E → ℕ) (xs ys : List E) (n : ℕ) (a b : E) → n < length xs → n < length ys →
    a ≡ get_or xs n a → b ≡ get_or ys n b → num a ≡ num b → coefficient num xs n ≡ coefficient num ys n
same_here num xs ys n a b l m ea eb e = coefficient_read num xs n a l ea ∙ e ∙ sym (coefficient_read num ys n b m eb)

pub same_more : (x y : ℕ → ℕ) (n : ℕ) → ((j : ℕ) → j < n → x j ≡ y j) → x n ≡ y n → (j : ℕ) → j < n + 1 → x j ≡ y j
same_more x y n h e j below = elim (cases_eq j n) [
  | inl here ↦ ap x here ∙ e ∙ ap y (sym here)
  | inr other ↦ h j (omega arith)
]
