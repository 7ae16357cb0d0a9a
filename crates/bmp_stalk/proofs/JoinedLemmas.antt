-- Rows that come one after the other.
use Rattle.std.proofs.Common.{◌≡◌, ℕ, ◌+◌, ◌<◌, inl, inr, sym, ap, ◌∙◌, arith}
use Rattle.std.proofs.lemmas.Bool.{cases_eq}
use Rattle.bmp_math.specs.Matrices.{Matrix, SameMatrix}
use Rattle.bmp_linear.specs.RowChanges.{IsRowPushed}
use Rattle.bmp_stalk.specs.Values.{HasRowsOf}

pub rows_more : {n : ℕ} {a b c : Matrix} {row : ℕ → ℕ} → HasRowsOf n a b →
    ((j : ℕ) → j < a.cols → row j ≡ a.entry n j) → IsRowPushed b c row → HasRowsOf (n + 1) a c
rows_more {n} {a} {b} {c} {row} h made pushed = record {
  rows = pushed.rows ∙ ap (λ r. r + 1) h.rows;
  cols = pushed.cols ∙ h.cols;
  same = λ i j l m.
      let column : j < b.cols = rw h.cols m in
      elim (cases_eq i n) [
        | inl last ↦
            ap (λ r. c.entry r j) (last ∙ sym h.rows)
            ∙ pushed.pushed j column
            ∙ made j m
            ∙ ap (λ r. a.entry r j) (sym last)
        | inr other ↦
            let before : i < n = omega arith in
            pushed.others i j (rw h.rows before) column ∙ h.same i j before m
      ];
}

pub same_from_rows : {n : ℕ} {a b : Matrix} → n ≡ a.rows → HasRowsOf n a b → SameMatrix b a
same_from_rows all h = record {
  rows = h.rows ∙ all;
  cols = h.cols;
  entries = λ i j row column. h.same i j (rw all row) column;
}
