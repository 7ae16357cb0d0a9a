-- Columns of rows of bytes, and what writing them changes.
use Rattle.std.proofs.Common.{◌≡◌, ℕ, suc, ◌+◌, ◌*◌, ◌<◌, ◌≤◌, List, [], length, get_or, set, take, eqb}
use Rattle.std.proofs.Common.{refl, sym, ap, ◌∙◌, inl, inr, arith, eq-eqb, ne_eqb}
use Rattle.std.proofs.Common.{length-set, get_or-set_same, get_or-set_other}
use Rattle.std.proofs.Math.Nat.{mul-le-mul_right}
use Rattle.std.proofs.lemmas.Bool.{cases_eq, cases_lt, cond-true, cond-false}
use Rattle.bmp_linear.specs.declared.vector.Entry.{Entry}
use Rattle.bmp_linear.specs.SparseVectors.{IsRising, number_at}
use Rattle.bmp_linear.proofs.SparseLemmas.{number_at_more}
use Rattle.bmp_levels.specs.Runs.{IsColumnWritten, AreColumnsWritten}

-- a place is in one row alone
pub rows_apart :
    (width c e i j : ℕ) → i < width → j < width → c * width + i ≡ e * width + j → c ≡ e
rows_apart width c e i j first second same = elim (cases_lt c e) [
  | inl less ↦
      absurd (let step : suc c * width ≤ e * width = mul-le-mul_right width less in omega (arith, step, same, first))
  | inr other ↦ elim (cases_lt e c) [
    | inl less ↦
        absurd (let step : suc e * width ≤ c * width = mul-le-mul_right width less in omega (arith, step, same, second))
    | inr equal ↦ omega arith
  ]
]

pub columns_apart :
    (width c e i j : ℕ) → i < width → j < width → c * width + i ≡ e * width + j → i ≡ j
columns_apart width c e i j first second same =
    let row : c ≡ e = rows_apart width c e i j first second same in
    let rows : c * width ≡ e * width = ap (λ n. n * width) row in
    omega (arith, same, rows)

-- a place of a row is below the end of all rows
pub row_ends : (width size c : ℕ) → c < size → c * width + width ≤ size * width
row_ends width size c below =
    let rows : suc c * width ≤ size * width = mul-le-mul_right width below in omega (arith, rows)

-- ---- one column, entry by entry

module _ (width column : ℕ) (inside : column < width) (old : List ℕ) where
  pub column_none :
      (ns : List ℕ) → ((c : ℕ) → get_or ns (c * width + column) 0 ≡ 0) →
      IsColumnWritten width column (number_at []) ns ns
  column_none ns clear = record { sized = refl; own = clear; others = λ c j below other. refl }

  pub column_more :
      (v : List Entry) (ns : List ℕ) (i : ℕ) (e : Entry) → IsRising v → i < length v →
      (get_or v i e).place * width + width ≤ length ns →
      IsColumnWritten width column (number_at (take i v)) old ns →
      IsColumnWritten width column (number_at (take (i + 1) v)) old
      (set ns ((get_or v i e).place * width + column) (get_or v i e).value)
  column_more v ns i e rising below room h =
      let place = (get_or v i e).place in
      let value = (get_or v i e).value in
      let at = (get_or v i e).place * width + column in
      record {
        sized = length-set ns at value ∙ h.sized;
        own = λ c. elim (cases_eq (get_or v i e).place c) [
          | inl same ↦
              let row : c * width + column ≡ at = ap (λ n. n * width + column) (sym same) in
              ap (λ n. get_or (set ns at value) n 0) row
              ∙ get_or-set_same ns at value 0 (omega (arith, room, inside))
              ∙ sym (number_at_more v i c e rising below
              ∙ cond-true {A = ℕ} (eqb place c) value (number_at (take i v) c) (eq-eqb place c same))
          | inr other ↦
              get_or-set_other ns at (c * width + column) value 0
              (λ same. other (sym (rows_apart width c (get_or v i e).place column column inside inside same)))
              ∙ h.own c
              ∙ sym (number_at_more v i c e rising below
              ∙ cond-false {A = ℕ} (eqb place c) value (number_at (take i v) c) (ne_eqb place c other))
        ];
        others = λ c j within apart.
            get_or-set_other ns at (c * width + j) value 0
            (λ place_same. apart (columns_apart width c (get_or v i e).place j column within inside place_same))
            ∙ h.others c j within apart;
      }

-- ---- several columns

module _ (width start : ℕ) (number : ℕ → ℕ → ℕ) (old : List ℕ) where
  pub columns_none : AreColumnsWritten width start 0 number old old
  columns_none = record { sized = refl; own = λ i c below. absurd (omega arith); others = λ c j below apart. refl }

  -- the next column is as it was
  pub column_clear :
      (n i : ℕ) (ns : List ℕ) → i < n → start + n ≤ width →
      ((c j : ℕ) → start ≤ j → j < start + n → get_or old (c * width + j) 0 ≡ 0) →
      AreColumnsWritten width start i number old ns → (c : ℕ) → get_or ns (c * width + (start + i)) 0 ≡ 0
  column_clear n i ns below within clear h c =
      h.others c (start + i) (omega arith) (inr (omega arith)) ∙ clear c (start + i) (omega arith) (omega arith)

  pub columns_more :
      (i : ℕ) (ns new : List ℕ) → start + i < width → AreColumnsWritten width start i number old ns →
      IsColumnWritten width (start + i) (number i) ns new → AreColumnsWritten width start (i + 1) number old new
  columns_more i ns new within h one = record {
    sized = one.sized ∙ h.sized;
    own = λ t c below. elim (cases_eq t i) [
      | inl last ↦
          ap (λ n. get_or new (c * width + (start + n)) 0) last ∙ one.own c ∙ ap (λ n. number n c) (sym last)
      | inr other ↦
          one.others c (start + t) (omega arith) (λ same. other (omega arith)) ∙ h.own t c (omega arith)
    ];
    others = λ c j below apart.
        one.others c j below (λ same. elim apart [ inl before ↦ omega arith | inr after ↦ omega arith ])
        ∙ h.others c j below (elim apart [ inl before ↦ inl before | inr after ↦ inr (omega arith) ]);
  }
