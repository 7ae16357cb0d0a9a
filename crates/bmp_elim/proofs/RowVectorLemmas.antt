-- Rows as vectors, one after the other, and unit vectors as rows.
use Rattle.std.proofs.Common.{◌≡◌, ℕ, ◌+◌, ◌<◌, ◌≤◌, List, [], ◌∷◌, ◌++◌, length, inl, inr, refl, sym, ap, ◌∙◌, subst, arith, length-append}
use Rattle.std.proofs.lemmas.Bool.{cases_eq}
use Rattle.std.proofs.lemmas.List.{get_or_push, get_or_append_left}
use Rattle.bmp_math.specs.Matrices.{Matrix, NumbersBelow}
use Rattle.bmp_math.specs.Vectors.{unit}
use Rattle.bmp_linear.specs.declared.vector.Entry.{Entry}
use Rattle.bmp_linear.specs.SparseVectors.{number_at}
use Rattle.bmp_linear.specs.RowChanges.{IsRowPushed}
use Rattle.bmp_elim.specs.Traces.{AreUnits}
use Rattle.bmp_linear.specs.RowVectors.{IsRowVector}
use Rattle.bmp_elim.specs.RowVectors.{AreRowVectors}
use Rattle.bmp_math.proofs.UnitLemmas.{unit_same, unit_other}

pub row_vectors_start : (p : ℕ) (a : Matrix) (from : ℕ) → AreRowVectors p a from from []
row_vectors_start p a from = record { one_for_each = omega arith; each = λ k l. absurd (omega arith) }

pub row_vectors_more : (p : ℕ) (a : Matrix) (from row : ℕ) (vs : List (List Entry)) (v : List Entry) →
    AreRowVectors p a from row vs → IsRowVector p a row v → AreRowVectors p a from (row + 1) (vs ++ v ∷ [])
row_vectors_more p a from row vs v h made =
    let count : length (vs ++ v ∷ []) ≡ length vs + 1 = simp length-append refl in
    record {
      one_for_each = omega (arith, count, h.one_for_each);
      each = λ k l. elim (cases_eq k (length vs)) [
        | inl last ↦ rw (get_or_push vs v [] k (sym last))
            (subst (λ r. IsRowVector p a r v) (sym (ap (λ x. from + x) last ∙ h.one_for_each)) made)
        | inr other ↦ let within : k < length vs = omega arith in
            rw (get_or_append_left vs (v ∷ []) [] k within) (h.each k within)
      ];
    }

pub units_start : (m : ℕ) (t : Matrix) → t.rows ≡ 0 → t.cols ≡ m → AreUnits 0 m t
units_start m t rows cols = record { rows = rows; cols = cols; units = λ i k l b. absurd (omega arith) }

pub units_more : (n m : ℕ) (t u : Matrix) (v : List Entry) → AreUnits n m t → v ≡ record { place = n; value = 1 } ∷ [] →
    IsRowPushed t u (number_at v) → AreUnits (n + 1) m u
units_more n m t u v h is pushed = record {
  rows = pushed.rows ∙ ap (λ r. r + 1) h.rows;
  cols = pushed.cols ∙ h.cols;
  units = λ i k l b.
      let column : k < t.cols = rw h.cols b in
      elim (cases_eq i n) [
        | inl last ↦
            ap (λ r. u.entry r k) (last ∙ sym h.rows) ∙ pushed.pushed k column ∙ ap (λ w. number_at w k) is
            ∙ ap (λ r. unit r k) (sym last)
        | inr other ↦
            let before : i < n = omega arith in
            pushed.others i k (rw h.rows before) column ∙ h.units i k before b
      ];
}

pub units_below : (p n m : ℕ) (t : Matrix) → 2 ≤ p → AreUnits n m t → NumbersBelow p t
units_below p n m t two h i j l b =
    let row : i < n = rw (← h.rows) l in
    let column : j < m = rw (← h.cols) b in
    rw (h.units i j row column)
    (elim (cases_eq i j) [
      | inl same ↦ let one : unit i j ≡ 1 = ap (λ x. unit x j) same ∙ unit_same j in rw one (omega arith)
      | inr other ↦ let none : unit i j ≡ 0 = unit_other i j other in rw none (omega arith)
    ])

pub no_numbers : (p : ℕ) (t : Matrix) → t.cols ≡ 0 → NumbersBelow p t
no_numbers p t none i j l b = absurd (omega arith)
