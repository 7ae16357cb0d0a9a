-- Rows that are read off columns.
use Rattle.std.proofs.Common.{◌≡◌, ℕ, ◌+◌, ◌*◌, ◌<◌, List, [], ◌∷◌, ◌++◌, get_or, sym, ap, subst, ◌∙◌, inl, inr, arith}
use Rattle.std.specs.Prelude.{slice_index}
use Rattle.std.proofs.lemmas.Bool.{cases_eq}
use Rattle.std.proofs.lemmas.List.Elements.{All-push}
use Rattle.bmp_math.specs.Matrices.{Matrix}
use Rattle.bmp_linear.specs.declared.vector.Entry.{Entry}
use Rattle.bmp_linear.specs.SparseVectors.{FitsBelow, ValuesBelow, number_at}
use Rattle.bmp_linear.proofs.SparseLemmas.{number_at-past, number_at-push_same, number_at-push_other}

-- the row has row i of the first n columns, each of as many numbers as there are rows
pub record IsRowBelow (rows i : ℕ) (columns : List ℕ) (n : ℕ) (row : List Entry) : Type 0 where
  pub fits : FitsBelow row n
  pub numbers : (j : ℕ) → j < n → number_at row j ≡ slice_index columns (j * rows + i)
  pub values : (p : ℕ) → ((j : ℕ) → j < n → slice_index columns (j * rows + i) < p) → ValuesBelow row p

module _ (rows i : ℕ) (columns : List ℕ) where
  pub row_none : IsRowBelow rows i columns 0 []
  row_none = record {
    fits = λ k d below. absurd (omega arith);
    numbers = λ j below. absurd (omega arith);
    values = λ p small k d below. absurd (omega arith);
  }

  -- a number that is 0 has no entry
  pub row_passed : (n : ℕ) (row : List Entry) → IsRowBelow rows i columns n row →
      slice_index columns (n * rows + i) ≡ 0 → IsRowBelow rows i columns (n + 1) row
  row_passed n row h none = record {
    fits = λ k d below. let before : (get_or row k d).place < n = h.fits k d below in omega arith;
    numbers = λ j below. elim (cases_eq j n) [
      | inl here ↦ ap (number_at row) here ∙ number_at-past row n h.fits
          ∙ sym (ap (λ z. slice_index columns (z * rows + i)) here ∙ none)
      | inr other ↦ h.numbers j (omega arith)
    ];
    values = λ p small. h.values p (λ j below. small j (omega (arith, below)));
  }

  -- another has one
  pub row_more : (n : ℕ) (row : List Entry) (e : Entry) → IsRowBelow rows i columns n row → e.place ≡ n →
      e.value ≡ slice_index columns (n * rows + i) → IsRowBelow rows i columns (n + 1) (row ++ e ∷ [])
  row_more n row e h place value =
      let before : FitsBelow row e.place = subst (FitsBelow row) (sym place) h.fits in
      record {
        fits = All-push (λ d. d.place < n + 1) row e
            (λ k d below. let b : (get_or row k d).place < n = h.fits k d below in omega arith) (omega (arith, place));
        numbers = λ j below. elim (cases_eq j n) [
          | inl here ↦ ap (number_at (row ++ e ∷ [])) (here ∙ sym place) ∙ number_at-push_same row e before ∙ value
              ∙ ap (λ z. slice_index columns (z * rows + i)) (sym here)
          | inr other ↦ number_at-push_other row e j (λ same. other (sym same ∙ place)) ∙ h.numbers j (omega arith)
        ];
        values = λ p small. All-push (λ d. d.value < p) row e (h.values p (λ j below. small j (omega (arith, below))))
            (let own = small n (omega arith) in omega (arith, own, value));
      }

-- the first n rows of the matrix are those of the columns
pub record HasRowsBelow (rows cols : ℕ) (columns : List ℕ) (n : ℕ) (a : Matrix) : Type 0 where
  pub counted : a.rows ≡ n
  pub wide : a.cols ≡ cols
  pub entries : (i j : ℕ) → i < n → j < cols → a.entry i j ≡ slice_index columns (j * rows + i)
