-- The columns of two matrices, joined.
use Rattle.std.proofs.Common.{◌≡◌, ℕ, ◌+◌, ◌-◌, ◌<◌, List, length, get_or, inl, inr, sym, ap, ◌∙◌, subst, arith}
use Rattle.std.proofs.lemmas.Bool.{cases_eq, cases_lt}
use Rattle.bmp_math.specs.Matrices.{Matrix, NumbersBelow}
use Rattle.bmp_linear.specs.declared.vector.Entry.{Entry}
use Rattle.bmp_linear.specs.SparseVectors.{IsSparse, FitsBelow, number_at}
use Rattle.bmp_linear.specs.RowChanges.{IsRowPushed}
use Rattle.bmp_elim.specs.Columns.{IsJoinedColumn, AreJoinedColumns}
use Rattle.bmp_linear.proofs.RowVectorLemmas.{values_from_numbers}

-- a column that was written in two parts
pub joined_column_made : (p : ℕ) (span vectors : Matrix) (column start : ℕ) (middle numbers : List ℕ) (v : List Entry) →
    NumbersBelow p span → NumbersBelow p vectors → column < span.cols → column < vectors.cols → start ≡ span.rows →
    ((i : ℕ) → i < span.rows → get_or middle (0 + i) 0 ≡ span.entry i column) →
    ((k : ℕ) → k < start → get_or numbers k 0 ≡ get_or middle k 0) →
    ((i : ℕ) → i < vectors.rows → get_or numbers (start + i) 0 ≡ vectors.entry i column) →
    length numbers ≡ span.rows + vectors.rows → IsSparse v → FitsBelow v (length numbers) →
    ((j : ℕ) → j < length numbers → number_at v j ≡ get_or numbers j 0) → IsJoinedColumn p span vectors column v
joined_column_made p span vectors column start middle numbers v span_below below span_within within at first kept second
    all sparse fits same =
    let of_span : (i : ℕ) → i < span.rows → number_at v i ≡ span.entry i column = λ i l.
    let from_zero : 0 + i ≡ i = omega arith in
    same i (omega arith) ∙ kept i (rw at l) ∙ ap (λ k. get_or middle k 0) (sym from_zero) ∙ first i l in
    let of_vectors : (i : ℕ) → i < vectors.rows → number_at v (span.rows + i) ≡ vectors.entry i column = λ i l.
    same (span.rows + i) (omega arith) ∙ ap (λ k. get_or numbers (k + i) 0) (sym at) ∙ second i l in
    record {
      fits = subst (λ n. FitsBelow v n) all fits;
      below = values_from_numbers p (length numbers) v sparse fits (λ j l. elim (cases_lt j span.rows) [
        | inl early ↦ rw (of_span j early) (span_below j column early span_within)
        | inr late ↦
            let i : ℕ = j - span.rows in
            let whole : span.rows + i ≡ j = omega arith in
            let row : i < vectors.rows = omega arith in
            subst (λ k. number_at v k < p) whole (rw (of_vectors i row) (below i column row within))
      ]);
      of_span = of_span;
      of_vectors = of_vectors;
    }

pub joined_start : (span vectors columns : Matrix) → columns.rows ≡ 0 → columns.cols ≡ span.rows + vectors.rows →
    AreJoinedColumns 0 span vectors columns
joined_start span vectors columns rows cols =
    record {
      rows = rows;
      cols = cols;
      of_span = λ j i l b. absurd (omega arith);
      of_vectors = λ j i l b. absurd (omega arith);
    }

pub joined_more : (p n : ℕ) (span vectors columns more : Matrix) (v : List Entry) →
    AreJoinedColumns n span vectors columns → IsJoinedColumn p span vectors n v →
    IsRowPushed columns more (number_at v) → AreJoinedColumns (n + 1) span vectors more
joined_more p n span vectors columns more v h made pushed = record {
  rows = pushed.rows ∙ ap (λ r. r + 1) h.rows;
  cols = pushed.cols ∙ h.cols;
  of_span = λ j i l b.
      let within : i < columns.cols = omega (arith, h.cols) in
      elim (cases_eq j n) [
        | inl last ↦ ap (λ r. more.entry r i) (last ∙ sym h.rows) ∙ pushed.pushed i within ∙ made.of_span i b
            ∙ ap (span.entry i) (sym last)
        | inr other ↦ let before : j < n = omega arith in pushed.others j i (rw h.rows before) within
            ∙ h.of_span j i before b
      ];
  of_vectors = λ j i l b.
      let within : span.rows + i < columns.cols = omega (arith, h.cols) in
      elim (cases_eq j n) [
        | inl last ↦ ap (λ r. more.entry r (span.rows + i)) (last ∙ sym h.rows) ∙ pushed.pushed (span.rows + i) within
            ∙ made.of_vectors i b ∙ ap (vectors.entry i) (sym last)
        | inr other ↦ let before : j < n = omega arith in pushed.others j (span.rows + i) (rw h.rows before) within
            ∙ h.of_vectors j i before b
      ];
}
