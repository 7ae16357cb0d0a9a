-- Rows that are stored, one after the other.
use Rattle.std.proofs.Common.{◌≡◌, ℕ, ◌+◌, ◌<◌, List, inl, inr, sym, ap, ◌∙◌, arith}
use Rattle.std.proofs.lemmas.Bool.{cases_eq}
use Rattle.bmp_math.specs.Matrices.{Matrix, SameMatrix}
use Rattle.bmp_linear.specs.declared.vector.Entry.{Entry}
use Rattle.bmp_linear.specs.SparseVectors.{number_at}
use Rattle.bmp_linear.specs.RowChanges.{IsRowPushed}
use Rattle.bmp_linear.specs.RowVectors.{IsRowVector}

-- the rows of b are the first n of a
pub record HasFirstRows (n : ℕ) (a b : Matrix) : Type 0 where
  pub rows : b.rows ≡ n
  pub cols : b.cols ≡ a.cols
  pub same : (i j : ℕ) → i < n → j < a.cols → b.entry i j ≡ a.entry i j

pub first_rows_none : (a b : Matrix) → b.rows ≡ 0 → b.cols ≡ a.cols → HasFirstRows 0 a b
first_rows_none a b rows cols = record { rows = rows; cols = cols; same = λ i j l m. absurd (omega arith) }

pub first_rows_more : {p n : ℕ} {a b c : Matrix} {v : List Entry} → HasFirstRows n a b → IsRowVector p a n v →
    IsRowPushed b c (number_at v) → HasFirstRows (n + 1) a c
first_rows_more {p} {n} {a} {b} {c} {v} h made pushed = record {
  rows = pushed.rows ∙ ap (λ r. r + 1) h.rows;
  cols = pushed.cols ∙ h.cols;
  same = λ i j l m.
      let column : j < b.cols = rw h.cols m in
      elim (cases_eq i n) [
        | inl last ↦
            ap (λ r. c.entry r j) (last ∙ sym h.rows)
            ∙ pushed.pushed j column
            ∙ made.numbers j m
            ∙ ap (λ r. a.entry r j) (sym last)
        | inr other ↦
            let before : i < n = omega arith in
            pushed.others i j (rw h.rows before) column ∙ h.same i j before m
      ];
}

pub first_rows_all : {n : ℕ} {a b : Matrix} → n ≡ a.rows → HasFirstRows n a b → SameMatrix b a
first_rows_all all h = record {
  rows = h.rows ∙ all;
  cols = h.cols;
  entries = λ i j l m. h.same i j (rw all l) m;
}
