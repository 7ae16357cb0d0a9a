-- One column more is reduced: what each change of rows keeps, and the two ways a column ends.
use Rattle.std.proofs.Common.{◌≡◌, ◌≢◌, ℕ, ◌+◌, ◌*◌, ◌%◌, ◌<◌, ◌≤◌, List, [], ◌∷◌, ◌++◌, length, inl, inr, refl, sym, ap, ◌∙◌, arith, length-append}
use Rattle.std.specs.Prelude.{slice_index}
use Rattle.std.proofs.Math.Nat.{mod-eq_of_lt}
use Rattle.std.proofs.lemmas.Bool.{cases_eq}
use Rattle.std.proofs.lemmas.List.{get_or_push, get_or_append_left}
use Rattle.bmp_math.specs.Matrices.{Matrix, NumbersBelow}
use Rattle.bmp_linear.specs.RowChanges.{IsRowAdded, IsRowMultiplied, AreRowsExchanged, AreMultiplesAdded}
use Rattle.bmp_elim.specs.Echelons.{IsReducedBelow}

module _ (n : ℕ) (a new : Matrix) (count : ℕ) (pivot : ℕ → ℕ) (h : IsReducedBelow n a count pivot) where
  -- only the columns below n are spoken of
  pub reduced_same : new.rows ≡ a.rows → ((i j : ℕ) → i < a.rows → j < n → new.entry i j ≡ a.entry i j) →
      IsReducedBelow n new count pivot
  reduced_same rows same = record {
    within = rw rows h.within;
    below = h.below;
    rising = h.rising;
    one = λ k l. same k (pivot k) (row k l) (h.below k l) ∙ h.one k l;
    zero_elsewhere = λ k i l b other. let b' : i < a.rows = omega (arith, rows) in same i (pivot k) b' (h.below k l)
        ∙ h.zero_elsewhere k i l b' other;
    zero_before = λ k j l b. let under : pivot k < n = h.below k l in same k j (row k l) (omega arith)
        ∙ h.zero_before k j l b;
    zero_after = λ i j l b m. let b' : i < a.rows = omega (arith, rows) in same i j b' m ∙ h.zero_after i j l b' m;
  }
    where
      row : (k : ℕ) → k < count → k < a.rows
      row k l = omega (arith, h.within)

  -- a later row, zero in these columns, is added
  pub reduced_added : (p into from c : ℕ) → n ≤ a.cols → NumbersBelow p a → count ≤ from → from < a.rows →
      IsRowAdded p a new into from c → IsReducedBelow n new count pivot
  reduced_added p into from c narrow numbers late below added = reduced_same added.rows (λ i j l b.
      let column : j < a.cols = omega arith in
      elim (cases_eq i into) [
        | inl same ↦
            let none : c * a.entry from j ≡ c * 0 = ap (λ z. c * z) (h.zero_after from j late below b) in
            let whole : a.entry i j + c * a.entry from j ≡ a.entry i j = omega arith in
            ap (λ k. new.entry k j) same ∙ added.added j column
            ∙ ap (λ k. (a.entry k j + c * a.entry from j) % p) (sym same) ∙ ap (λ z. z % p) whole
            ∙ mod-eq_of_lt (numbers i j l column)
        | inr other ↦ added.others i j l column other
      ])

  pub reduced_spread : (p from : ℕ) (c : ℕ → ℕ) → n ≤ a.cols → NumbersBelow p a → count ≤ from → from < a.rows →
      AreMultiplesAdded p a new from c → IsReducedBelow n new count pivot
  reduced_spread p from c narrow numbers late below added = reduced_same added.rows (λ i j l b.
      let column : j < a.cols = omega arith in
      elim (cases_eq i from) [
        | inl same ↦ ap (λ k. new.entry k j) same ∙ added.kept j column ∙ ap (λ k. a.entry k j) (sym same)
        | inr other ↦
            let none : c i * a.entry from j ≡ c i * 0 = ap (λ z. c i * z) (h.zero_after from j late below b) in
            let whole : a.entry i j + c i * a.entry from j ≡ a.entry i j = omega arith in
            added.added i j l column other ∙ ap (λ z. z % p) whole ∙ mod-eq_of_lt (numbers i j l column)
      ])

  pub reduced_multiplied : (p row c : ℕ) → 0 < p → n ≤ a.cols → count ≤ row → row < a.rows →
      IsRowMultiplied p a new row c → IsReducedBelow n new count pivot
  reduced_multiplied p row c positive narrow late below multiplied = reduced_same multiplied.rows (λ i j l b.
      let column : j < a.cols = omega arith in
      elim (cases_eq i row) [
        | inl same ↦
            let zero_before : a.entry row j ≡ 0 = h.zero_after row j late below b in
            let none : c * a.entry row j ≡ c * 0 = ap (λ z. c * z) zero_before in
            let whole : c * a.entry row j ≡ 0 = omega arith in
            ap (λ k. new.entry k j) same ∙ multiplied.multiplied j column ∙ ap (λ z. z % p) whole
            ∙ mod-eq_of_lt positive ∙ sym zero_before ∙ ap (λ k. a.entry k j) (sym same)
        | inr other ↦ multiplied.others i j l column other
      ])

  pub reduced_exchanged : (r s : ℕ) → n ≤ a.cols → count ≤ r → r < a.rows → count ≤ s → s < a.rows →
      AreRowsExchanged a new r s → IsReducedBelow n new count pivot
  reduced_exchanged r s narrow r_late r_below s_late s_below exchanged = reduced_same exchanged.rows (λ i j l b.
      let column : j < a.cols = omega arith in
      elim (cases_eq i r) [
        | inl first ↦ ap (λ k. new.entry k j) first ∙ exchanged.at_first j column ∙ h.zero_after s j s_late s_below b
            ∙ sym (h.zero_after r j r_late r_below b) ∙ ap (λ k. a.entry k j) (sym first)
        | inr other ↦ elim (cases_eq i s) [
          | inl second ↦ ap (λ k. new.entry k j) second ∙ exchanged.at_second j column
              ∙ h.zero_after r j r_late r_below b ∙ sym (h.zero_after s j s_late s_below b)
              ∙ ap (λ k. a.entry k j) (sym second)
          | inr away ↦ exchanged.others i j l column other away
        ]
      ])

module _ (n : ℕ) (a : Matrix) (count : ℕ) (pivot : ℕ → ℕ) (h : IsReducedBelow n a count pivot) where
  -- the column is zero from the row `count` on
  pub reduced_without : ((i : ℕ) → count ≤ i → i < a.rows → a.entry i n ≡ 0) → IsReducedBelow (n + 1) a count pivot
  reduced_without zeros = record {
    within = h.within;
    below = λ k l. let under : pivot k < n = h.below k l in omega arith;
    rising = h.rising;
    one = h.one;
    zero_elsewhere = h.zero_elsewhere;
    zero_before = h.zero_before;
    zero_after = λ i j l b m. elim (cases_eq j n) [
      | inl same ↦ rw same (zeros i l b)
      | inr other ↦ h.zero_after i j l b (omega arith)
    ];
  }

  -- the column is 1 at the row `count` and 0 at the other rows
  pub reduced_with : (pivot' : ℕ → ℕ) → ((k : ℕ) → k < count → pivot' k ≡ pivot k) → pivot' count ≡ n → count < a.rows →
      a.entry count n ≡ 1 → ((i : ℕ) → i < a.rows → i ≢ count → a.entry i n ≡ 0) →
      IsReducedBelow (n + 1) a (count + 1) pivot'
  reduced_with pivot' old_same new_is within one zeros = record {
    within = omega arith;
    below = λ k l. elim (cases_eq k count) [
      | inl same ↦ rw (same, new_is) (omega arith)
      | inr other ↦ let before : k < count = omega arith in let under : pivot k < n = h.below k before in
          rw (old_same k before) (omega arith)
    ];
    rising = λ k m l b.
        let before : k < count = omega arith in
        elim (cases_eq m count) [
          | inl same ↦ rw (same, new_is, old_same k before) (h.below k before)
          | inr other ↦ let early : m < count = omega arith in
              rw (old_same k before, old_same m early) (h.rising k m l early)
        ];
    one = λ k l. elim (cases_eq k count) [
      | inl same ↦ rw (same, new_is) one
      | inr other ↦ let before : k < count = omega arith in rw (old_same k before) (h.one k before)
    ];
    zero_elsewhere = λ k i l b apart. elim (cases_eq k count) [
      | inl same ↦ ap (λ r. a.entry i (pivot' r)) same ∙ ap (λ j. a.entry i j) new_is
          ∙ zeros i b (λ e. apart (e ∙ sym same))
      | inr other ↦ let before : k < count = omega arith in rw (old_same k before) (h.zero_elsewhere k i before b apart)
    ];
    zero_before = λ k j l b. elim (cases_eq k count) [
      | inl same ↦
          let at : pivot' k ≡ n = ap pivot' same ∙ new_is in
          let left : j < n = omega arith in
          rw same (h.zero_after count j (omega arith) within left)
      | inr other ↦ let before : k < count = omega arith in let at : pivot' k ≡ pivot k = old_same k before in
          h.zero_before k j before (omega arith)
    ];
    zero_after = λ i j l b m. elim (cases_eq j n) [
      | inl same ↦ rw same (zeros i b (λ e. absurd (omega arith)))
      | inr other ↦ h.zero_after i j (omega arith) b (omega arith)
    ];
  }

-- the same with the pivots in a list
pub reduced_push : (n : ℕ) (a : Matrix) (ps : List ℕ) → IsReducedBelow n a (length ps) (slice_index ps) →
    length ps < a.rows → a.entry (length ps) n ≡ 1 → ((i : ℕ) → i < a.rows → i ≢ length ps → a.entry i n ≡ 0) →
    IsReducedBelow (n + 1) a (length (ps ++ n ∷ [])) (slice_index (ps ++ n ∷ []))
reduced_push n a ps h within one zeros =
    simp length-append
    (reduced_with n a (length ps) (slice_index ps) h (slice_index (ps ++ n ∷ []))
    (λ k l. get_or_append_left ps (n ∷ []) 0 k l) (get_or_push ps n 0 (length ps) refl) within one zeros)

-- no column, no pivot
pub reduced_start : (a : Matrix) → IsReducedBelow 0 a 0 (slice_index [])
reduced_start a = record {
  within = omega arith;
  below = λ k l. absurd (omega arith);
  rising = λ k m l b. absurd (omega arith);
  one = λ k l. absurd (omega arith);
  zero_elsewhere = λ k i l b other. absurd (omega arith);
  zero_before = λ k j l b. absurd (omega arith);
  zero_after = λ i j l b m. absurd (omega arith);
}
