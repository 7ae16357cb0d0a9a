-- What is read off the joined columns of a span and of vectors, said of their rows.
use Rattle.std.proofs.Common.{◌≡◌, ℕ, ◌+◌, ◌*◌, ◌%◌, ◌<◌, List, length, get_or, inl, inr, sym, ap, ap₂, ◌∙◌, subst, arith}
use Rattle.std.specs.List.{All}
use Rattle.std.proofs.lemmas.Bool.{cases_eq}
use Rattle.bmp_math.specs.Sums.{sum_below}
use Rattle.bmp_math.specs.Vectors.{dot, unit}
use Rattle.bmp_math.specs.Matrices.{Matrix, combination}
use Rattle.bmp_math.proofs.SumLemmas.{sum_below_same, sum_below_joined}
use Rattle.bmp_linear.specs.declared.vector.Entry.{Entry}
use Rattle.bmp_linear.specs.SparseVectors.{FitsBelow}
use Rattle.bmp_linear.specs.Evidence.{vector_at}
use Rattle.bmp_linear.proofs.ShapeLemmas.{all_from_index}
use Rattle.bmp_elim.specs.Columns.{AreJoinedColumns}
use Rattle.bmp_elim.specs.Extensions.{AreChosen, AreDual, IsCombination, HasCombinations}
use Rattle.bmp_elim.specs.KeptColumns.{kept_columns, AreColumns, HasColumnDuals, HasColumnSums}
use Rattle.bmp_elim.proofs.KeptColumnLemmas.{kept_early, kept_late}
use Rattle.bmp_math.proofs.UnitLemmas.{unit_same, unit_other}

-- columns that were joined, which of those after the span's are chosen, their dual forms and all sums
pub record IsReadFrom (p : ℕ) (span vectors columns : Matrix) (chosen : List ℕ)
    (duals sums : List (List Entry)) : Type 0 where
  pub wide : span.cols ≡ vectors.cols
  pub joined : AreJoinedColumns vectors.cols span vectors columns
  pub choice : AreColumns span.rows columns chosen
  pub forms : HasColumnDuals p span.rows columns chosen duals
  pub written : HasColumnSums p span.rows columns chosen sums

unit_moved : (start i k : ℕ) → unit (start + i) (start + k) ≡ unit i k
unit_moved start i k =
    elim (cases_eq i k) [
      | inl same ↦ ap (λ x. unit (start + x) (start + k)) same ∙ unit_same (start + k) ∙ sym (unit_same k)
          ∙ ap (λ x. unit x k) (sym same)
      | inr other ↦ unit_other (start + i) (start + k) (λ e. other (omega arith)) ∙ sym (unit_other i k other)
    ]

module _ {p : ℕ} {span vectors columns : Matrix} {chosen : List ℕ} {duals sums : List (List Entry)}
    (h : IsReadFrom p span vectors columns chosen duals sums) where
  abbrev kept : Matrix
  kept = kept_columns span.rows chosen columns

  chosen_within : (k : ℕ) → k < length chosen → get_or chosen k 0 < vectors.rows
  chosen_within k l =
      let below : span.rows + get_or chosen k 0 < columns.cols = h.choice.below k l in
      omega (arith, h.joined.cols)

  pub chosen_made : AreChosen vectors chosen
  chosen_made = record {
    rise = h.choice.rise;
    below = all_from_index (λ i. i < vectors.rows) chosen (length chosen) 0 (omega arith) chosen_within;
  }

  -- a kept column is a row of the span, or after these a chosen row
  span_column : (r j : ℕ) → r < span.rows → j < vectors.cols → kept.entry j r ≡ span.entry r j
  span_column r j l b = ap (columns.entry j) (kept_early span.rows chosen r l) ∙ h.joined.of_span j r b l

  chosen_column : (k j : ℕ) → k < length chosen → j < vectors.cols →
      kept.entry j (span.rows + k) ≡ vectors.entry (get_or chosen k 0) j
  chosen_column k j l b =
      ap (columns.entry j) (kept_late span.rows chosen k)
      ∙ h.joined.of_vectors j (get_or chosen k 0) b (chosen_within k l)

  -- what a form says of a row is the combination of the row's column
  form_says : (i c : ℕ) (row : ℕ → ℕ) → ((j : ℕ) → j < vectors.cols → kept.entry j c ≡ row j) →
      dot vectors.cols (vector_at duals i) row ≡ combination (vector_at duals i) kept.entry columns.rows c
  form_says i c row same =
      sum_below_same (λ j. vector_at duals i j * row j) (λ j. vector_at duals i j * kept.entry j c) vectors.cols
      (λ j l. ap (λ z. vector_at duals i j * z) (sym (same j l)))
      ∙ ap (λ n. combination (vector_at duals i) kept.entry n c) (sym h.joined.rows)

  pub duals_read : AreDual p span vectors chosen duals
  duals_read = record {
    one_for_each = h.forms.one_for_each;
    fit = subst (λ n. All (λ v. FitsBelow v n) duals) h.joined.rows h.forms.fit;
    below = h.forms.below;
    on_chosen = λ i k l m.
        ap (λ z. z % p) (form_says i (span.rows + k) (vectors.entry (get_or chosen k 0)) (λ j b. chosen_column k j m b))
        ∙ h.forms.each i (span.rows + k) l (omega arith)
        ∙ ap (λ z. z % p) (unit_moved span.rows i k);
    on_span = λ i r l m.
        ap (λ n. dot n (vector_at duals i) (span.entry r) % p) h.wide
        ∙ ap (λ z. z % p) (form_says i r (span.entry r) (λ j b. span_column r j m b))
        ∙ h.forms.each i r l (omega arith)
        ∙ ap (λ z. z % p) (unit_other (span.rows + i) r (λ e. absurd (omega arith)));
  }

  pub combinations_read : HasCombinations p span vectors chosen sums
  combinations_read = record {
    one_for_each = omega (arith, h.written.one_for_each, h.joined.cols);
    fit = h.written.fit;
    below = h.written.below;
    each = λ i l j b.
        let x : ℕ → ℕ = vector_at sums i in
        let within : i < length sums = omega (arith, h.written.one_for_each, h.joined.cols) in
        let height : j < columns.rows = rw h.joined.rows b in
        let first : sum_below (λ k. x k * kept.entry j k) span.rows ≡ combination x span.entry span.rows j =
        sum_below_same (λ k. x k * kept.entry j k) (λ k. x k * span.entry k j) span.rows
        (λ k m. ap (λ z. x k * z) (span_column k j m b)) in
        let second : sum_below (λ k. x (span.rows + k) * kept.entry j (span.rows + k)) (length chosen) ≡ combination
        (λ k. x (span.rows + k)) (λ k. vectors.entry (get_or chosen k 0)) (length chosen) j =
        sum_below_same (λ k. x (span.rows + k) * kept.entry j (span.rows + k))
        (λ k. x (span.rows + k) * vectors.entry (get_or chosen k 0) j) (length chosen)
        (λ k m. ap (λ z. x (span.rows + k) * z) (chosen_column k j m b)) in
        ap (λ z. z % p) (sym (h.joined.of_vectors j i b l))
        ∙ sym (h.written.each i within j height)
        ∙ ap (λ z. z % p) (sum_below_joined (λ k. x k * kept.entry j k) span.rows (length chosen)
        ∙ ap₂ (λ y z. y + z) first second);
  }

  pub spans_read : (i : ℕ) → i < vectors.rows → IsCombination p span vectors chosen (vectors.entry i)
  spans_read i l = record {
    of_span = vector_at sums i;
    of_chosen = λ k. vector_at sums i (span.rows + k);
    sums = combinations_read.each i l;
  }
