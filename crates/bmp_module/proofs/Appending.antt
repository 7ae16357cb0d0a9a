-- Numbers that are appended one after another.
use Rattle.std.proofs.Common.{◌≡◌, ℕ, ◌+◌, ◌<◌, List, [], ◌∷◌, ◌++◌, length, refl, sym, ap, ◌∙◌, inl, inr, arith}
use Rattle.std.specs.List.{All}
use Rattle.std.proofs.lemmas.Bool.{cases_eq, cases_lt}
use Rattle.std.proofs.lemmas.List.Elements.{All-push}
use Rattle.bmp_poly.specs.Coefficients.{coefficient}
use Rattle.bmp_poly.proofs.CoefficientLemmas.{coefficient_past}
use Rattle.bmp_graded.proofs.CoordinateLemmas.{coefficient_before, coefficient_last, length_more}
use Rattle.bmp_module.specs.Appended.{IsAppended}

module _ {E : Type 0} (is_value : E → Type 0) (num : E → ℕ) (old : List E) where
  pub appended_none : (f : ℕ → ℕ) → All is_value old → IsAppended is_value num old old 0 f
  appended_none f values = record {
    sized = omega arith;
    values = values;
    kept = λ j l. refl;
    added = λ j l. absurd (omega arith);
  }

  pub appended_more : (now : List E) (n : ℕ) (f : ℕ → ℕ) (x : E) → IsAppended is_value num old now n f → is_value x →
      num x ≡ f n → IsAppended is_value num old (now ++ x ∷ []) (n + 1) f
  appended_more now n f x h value e =
      let sized : length now ≡ length old + n = h.sized in
      record {
        sized = length_more now x ∙ omega arith;
        values = All-push is_value now x h.values value;
        kept = λ j l. coefficient_before num now x j (omega arith) ∙ h.kept j l;
        added = λ j l. elim (cases_eq j n) [
          | inl here ↦ ap (λ z. coefficient num (now ++ x ∷ []) (length old + z)) here
              ∙ ap (coefficient num (now ++ x ∷ [])) (sym sized) ∙ coefficient_last num now x ∙ e ∙ ap f (sym here)
          | inr other ↦ coefficient_before num now x (length old + j) (omega arith) ∙ h.added j (omega arith)
        ];
      }

  -- as many numbers under another name
  pub appended_as : (now : List E) (n m : ℕ) (f g : ℕ → ℕ) → n ≡ m → ((j : ℕ) → j < n → f j ≡ g j) →
      IsAppended is_value num old now n f → IsAppended is_value num old now m g
  appended_as now n m f g same agree h = record {
    sized = h.sized ∙ ap (λ z. length old + z) same;
    values = h.values;
    kept = h.kept;
    added = λ j l. h.added j (omega arith) ∙ agree j (omega arith);
  }

-- zeros alone
pub appended_zero : {E : Type 0} (is_value : E → Type 0) (num : E → ℕ) (now : List E) (n : ℕ) →
    IsAppended is_value num [] now n (λ i. 0) → (i : ℕ) → coefficient num now i ≡ 0
appended_zero is_value num now n h i =
    let sized : length now ≡ 0 + n = h.sized in
    elim (cases_lt i n) [
      | inl inside ↦ let at : i ≡ 0 + i = omega arith in ap (coefficient num now) at ∙ h.added i inside
      | inr past ↦ coefficient_past num now i (omega arith)
    ]
