-- A vector made of numbers, one place after the other.
use Rattle.std.proofs.Common.{◌≡◌, ◌≢◌, ℕ, ◌+◌, ◌<◌, List, [], ◌∷◌, ◌++◌, get_or, inl, inr, sym, ap, ◌∙◌, arith}
use Rattle.std.proofs.lemmas.Bool.{cases_eq}
use Rattle.std.proofs.lemmas.List.Elements.{All-push}
use Rattle.bmp_linear.specs.declared.vector.Entry.{Entry}
use Rattle.bmp_linear.specs.SparseVectors.{IsSparse, FitsBelow, number_at}
use Rattle.bmp_linear.proofs.SparseLemmas.{push_sparse, number_at-past, number_at-push_same, number_at-push_other}

-- the first n of the numbers are those of v, which has no others
pub record IsGathered (numbers : List ℕ) (n : ℕ) (v : List Entry) : Type 0 where
  pub sparse : IsSparse v
  pub fits : FitsBelow v n
  pub same : (j : ℕ) → j < n → number_at v j ≡ get_or numbers j 0

pub gathered_none : (numbers : List ℕ) → IsGathered numbers 0 []
gathered_none numbers =
    record {
      sparse = record { rising = tt; not_zero = λ k d l. absurd (omega arith) };
      fits = λ k d l. absurd (omega arith);
      same = λ j l. absurd (omega arith);
    }

fits_more : (v : List Entry) (n : ℕ) → FitsBelow v n → FitsBelow v (n + 1)
fits_more v n h k d l = let before : (get_or v k d).place < n = h k d l in omega arith

module _ (numbers : List ℕ) (n : ℕ) (v : List Entry) (h : IsGathered numbers n v) where
  pub gathered_zero : get_or numbers n 0 ≡ 0 → IsGathered numbers (n + 1) v
  gathered_zero none = record {
    sparse = h.sparse;
    fits = fits_more v n h.fits;
    same = λ j l. elim (cases_eq j n) [
      | inl last ↦ ap (number_at v) last ∙ number_at-past v n h.fits ∙ sym none
          ∙ ap (λ k. get_or numbers k 0) (sym last)
      | inr other ↦ h.same j (omega arith)
    ];
  }

  pub gathered_push : (e : Entry) → e.place ≡ n → e.value ≡ get_or numbers n 0 → e.value ≢ 0 →
      IsGathered numbers (n + 1) (v ++ e ∷ [])
  gathered_push e at is other_zero =
      let fits : FitsBelow v e.place = rw at h.fits in
      record {
        sparse = push_sparse v e h.sparse fits other_zero;
        fits = All-push (λ d. d.place < n + 1) v e (fits_more v n h.fits) (omega arith);
        same = λ j l. elim (cases_eq j n) [
          | inl last ↦ ap (number_at (v ++ e ∷ [])) (last ∙ sym at) ∙ number_at-push_same v e fits ∙ is
              ∙ ap (λ k. get_or numbers k 0) (sym last)
          | inr other ↦ number_at-push_other v e j (λ same. other (sym same ∙ at)) ∙ h.same j (omega arith)
        ];
      }
