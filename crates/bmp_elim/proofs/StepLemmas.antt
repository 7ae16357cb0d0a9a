-- The steps of elimination keep what holds of the rows and of what is changed alike.
use Rattle.std.proofs.Common.{◌≡◌, ◌≢◌, ℕ, ◌+◌, ◌*◌, ◌%◌, ◌<◌, ◌≤◌, List, [], ◌∷◌, ◌++◌, length, inl, inr, refl, sym, ap, ◌∙◌, subst, arith}
use Rattle.std.proofs.Math.Nat.{mod-eq_of_lt}
use Rattle.std.proofs.lemmas.Bool.{cases_eq}
use Rattle.std.specs.Prelude.{slice_index}
use Rattle.bmp_math.specs.Congruences.{SameMod}
use Rattle.bmp_math.specs.Matrices.{Matrix, NumbersBelow}
use Rattle.bmp_linear.specs.RowChanges.{IsRowAdded, IsRowMultiplied, AreRowsExchanged, AreMultiplesAdded}
use Rattle.bmp_linear.proofs.RowChangeLemmas.{numbers_below-added, numbers_below-multiplied, numbers_below-exchanged}
use Rattle.bmp_linear.proofs.MultipleLemmas.{multiples-below}
use Rattle.bmp_elim.specs.Echelons.{IsEchelon, IsReducedBelow}
use Rattle.bmp_elim.specs.Traces.{IsTrace, HasTrace, AreUnits}
use Rattle.bmp_elim.specs.Steps.{IsKept, IsColumnCleared, IsZeroFrom, IsFound, IsEliminated}
use Rattle.bmp_elim.proofs.TraceLemmas.{alike_added, alike_spread, alike_multiplied, alike_exchanged, alike_start, trace_from_units}
use Rattle.bmp_elim.proofs.ColumnLemmas.{reduced_added, reduced_spread, reduced_multiplied, reduced_exchanged, reduced_without, reduced_push, reduced_start}

pub kept_start : (p col count : ℕ) (a t : Matrix) → NumbersBelow p a → NumbersBelow p t → IsKept p col count a a t t
kept_start p col count a t numbers other_numbers = record {
  rows = refl;
  cols = refl;
  other_rows = refl;
  numbers = numbers;
  other_numbers = other_numbers;
  alike = λ old_a old_t h. h;
  reduced = λ pivot h. h;
}

pub kept_after : (p col count : ℕ) (a b c t u v : Matrix) → IsKept p col count a b t u → IsKept p col count b c u v →
    IsKept p col count a c t v
kept_after p col count a b c t u v h k = record {
  rows = k.rows ∙ h.rows;
  cols = k.cols ∙ h.cols;
  other_rows = k.other_rows ∙ h.other_rows;
  numbers = k.numbers;
  other_numbers = k.other_numbers;
  alike = λ old_a old_t x. k.alike old_a old_t (h.alike old_a old_t x);
  reduced = λ pivot x. k.reduced pivot (h.reduced pivot x);
}

pub kept_added : (p col count : ℕ) (a new_a t new_t : Matrix) (into from c : ℕ) → 0 < p → col ≤ a.cols →
    NumbersBelow p a → NumbersBelow p t → count ≤ from → from < a.rows → into ≢ from →
    IsRowAdded p a new_a into from c → IsRowAdded p t new_t into from c → IsKept p col count a new_a t new_t
kept_added p col count a new_a t new_t into from c positive narrow numbers other_numbers late below apart x y = record {
  rows = x.rows;
  cols = x.cols;
  other_rows = y.rows;
  numbers = numbers_below-added p a new_a into from c positive numbers x;
  other_numbers = numbers_below-added p t new_t into from c positive other_numbers y;
  alike = λ old_a old_t h. alike_added p old_a a new_a old_t t new_t h into from c (rw (← h.first.rows) below) apart x
      y;
  reduced = λ pivot h. reduced_added col a new_a count pivot h p into from c narrow numbers late below x;
}

pub kept_multiplied : (p col count : ℕ) (a new_a t new_t : Matrix) (row c d : ℕ) → 0 < p → col ≤ a.cols →
    NumbersBelow p a → NumbersBelow p t → count ≤ row → row < a.rows → SameMod p (c * d) 1 →
    IsRowMultiplied p a new_a row c → IsRowMultiplied p t new_t row c → IsKept p col count a new_a t new_t
kept_multiplied p col count a new_a t new_t row c d positive narrow numbers other_numbers late below inverse x y =
    record {
      rows = x.rows;
      cols = x.cols;
      other_rows = y.rows;
      numbers = numbers_below-multiplied p a new_a row c positive numbers x;
      other_numbers = numbers_below-multiplied p t new_t row c positive other_numbers y;
      alike = λ old_a old_t h. alike_multiplied p old_a a new_a old_t t new_t h row c d (rw (← h.first.rows) below)
          inverse
          x y;
      reduced = λ pivot h. reduced_multiplied col a new_a count pivot h p row c positive narrow late below x;
    }

pub kept_exchanged : (p col count : ℕ) (a new_a t new_t : Matrix) (r s : ℕ) → col ≤ a.cols → NumbersBelow p a →
    NumbersBelow p t → t.rows ≡ a.rows → count ≤ r → r < a.rows → count ≤ s → s < a.rows →
    AreRowsExchanged a new_a r s → AreRowsExchanged t new_t r s → IsKept p col count a new_a t new_t
kept_exchanged p col count a new_a t new_t r s narrow numbers other_numbers square r_late r_below s_late s_below x y =
    record {
      rows = x.rows;
      cols = x.cols;
      other_rows = y.rows;
      numbers = numbers_below-exchanged p a new_a r s r_below s_below numbers x;
      other_numbers = numbers_below-exchanged p t new_t r s (rw square r_below) (rw square s_below) other_numbers y;
      alike = λ old_a old_t h. alike_exchanged p old_a a new_a old_t t new_t h r s (rw (← h.first.rows) r_below)
          (rw (← h.first.rows) s_below) x y;
      reduced = λ pivot h. reduced_exchanged col a new_a count pivot h r s narrow r_late r_below s_late s_below x;
    }

-- one row more is cleared: x is its number at the column, and c takes x away
pub cleared_more : (p col pivot i x c : ℕ) (a mid new t mid_t new_t : Matrix) → 0 < p → i < a.rows → pivot < a.rows →
    col < a.cols → i ≢ pivot → x ≡ mid.entry i col → (x + c) % p ≡ 0 → IsRowAdded p mid new i pivot c →
    IsRowAdded p mid_t new_t i pivot c → IsColumnCleared p col pivot i a mid t mid_t →
    IsColumnCleared p col pivot (i + 1) a new t new_t
cleared_more p col pivot i x c a mid new t mid_t new_t positive row pivot_row column apart read negative added added_t
    h =
    let one : mid.entry pivot col ≡ 1 = h.one in
    let times : c * mid.entry pivot col ≡ c * 1 = ap (λ y. c * y) one in
    let single : mid.entry i col + c * mid.entry pivot col ≡ x + c = omega (arith, times, read) in
    let mid_pivot : pivot < mid.rows = omega (arith, h.kept.rows) in
    let mid_column : col < mid.cols = omega (arith, h.kept.cols) in
    record {
      kept = kept_after p col pivot a mid new t mid_t new_t h.kept
          (kept_added p col pivot mid new mid_t new_t i pivot c positive (omega arith) h.kept.numbers
          h.kept.other_numbers (omega arith) mid_pivot apart added added_t);
      one = added.others pivot col mid_pivot mid_column (λ e. apart (sym e)) ∙ one;
      zero_elsewhere = λ k l other. elim (cases_eq k i) [
        | inl here ↦ rw here (added.added col mid_column ∙ ap (λ y. y % p) single ∙ negative)
        | inr away ↦ let k_row : k < mid.rows = omega (arith, h.kept.rows) in added.others k col k_row mid_column away
            ∙ h.zero_elsewhere k (omega arith) other
      ];
    }

-- the pivot's row, and one that is 0 at the column, need no change
pub cleared_skip : (p col pivot i : ℕ) (a mid t mid_t : Matrix) → (i ≢ pivot → mid.entry i col ≡ 0) →
    IsColumnCleared p col pivot i a mid t mid_t → IsColumnCleared p col pivot (i + 1) a mid t mid_t
cleared_skip p col pivot i a mid t mid_t none h = record {
  kept = h.kept;
  one = h.one;
  zero_elsewhere = λ k l other. elim (cases_eq k i) [
    | inl here ↦ ap (λ r. mid.entry r col) here ∙ none (λ e. other (here ∙ e))
    | inr away ↦ h.zero_elsewhere k (omega arith) other
  ];
}

pub cleared_start : (p col pivot : ℕ) (a t : Matrix) → NumbersBelow p a → NumbersBelow p t → a.entry pivot col ≡ 1 →
    IsColumnCleared p col pivot 0 a a t t
cleared_start p col pivot a t numbers other_numbers one = record {
  kept = kept_start p col pivot a t numbers other_numbers;
  one = one;
  zero_elsewhere = λ k l other. absurd (omega arith);
}

-- where there are no columns nothing is to be added
pub multiples_without_columns : (p : ℕ) (t : Matrix) (from : ℕ) (c : ℕ → ℕ) → t.cols ≡ 0 →
    AreMultiplesAdded p t t from c
multiples_without_columns p t from c none = record {
  rows = refl;
  cols = refl;
  added = λ i j l b. absurd (omega arith);
  kept = λ j b. refl;
  others = λ i j l k b. refl;
}

-- all rows are cleared at once: c takes away what they are at the column
pub cleared_spread : (p col pivot : ℕ) (c : ℕ → ℕ) (a new t new_t : Matrix) → 0 < p → col < a.cols → pivot < a.rows →
    NumbersBelow p a → NumbersBelow p t → a.entry pivot col ≡ 1 →
    ((i : ℕ) → i < a.rows → (a.entry i col + c i) % p ≡ 0) → AreMultiplesAdded p a new pivot c →
    AreMultiplesAdded p t new_t pivot c → IsColumnCleared p col pivot a.rows a new t new_t
cleared_spread p col pivot c a new t new_t positive column row numbers other_numbers one away x y = record {
  kept = record {
    rows = x.rows;
    cols = x.cols;
    other_rows = y.rows;
    numbers = multiples-below a.rows p a new pivot c x positive numbers;
    other_numbers = multiples-below t.rows p t new_t pivot c y positive other_numbers;
    alike = λ old_a old_t h. alike_spread p old_a a new old_t t new_t h pivot c (rw (← h.first.rows) row) x y;
    reduced = λ place h. reduced_spread col a new pivot place h p pivot c (omega arith) numbers (omega arith) row x;
  };
  one = x.kept col column ∙ one;
  zero_elsewhere = λ i l other.
      let times : c i * a.entry pivot col ≡ c i * 1 = ap (λ z. c i * z) one in
      let single : a.entry i col + c i * a.entry pivot col ≡ a.entry i col + c i = omega arith in
      x.added i col l column other ∙ ap (λ z. z % p) single ∙ away i l;
}

-- exchange, multiply, clear
pub cleared_after : (p col pivot n : ℕ) (a b c t u v : Matrix) → IsKept p col pivot a b t u →
    IsColumnCleared p col pivot n b c u v → IsColumnCleared p col pivot n a c t v
cleared_after p col pivot n a b c t u v h k = record {
  kept = kept_after p col pivot a b c t u v h k.kept;
  one = k.one;
  zero_elsewhere = k.zero_elsewhere;
}

-- a column ends
module _ (p n : ℕ) (old_a a old_t t : Matrix) (ps : List ℕ) (h : IsEliminated p n old_a a old_t t ps) where
  pub column_without : IsZeroFrom a (length ps) a.rows n → IsEliminated p (n + 1) old_a a old_t t ps
  column_without zeros = record {
    alike = h.alike;
    reduced = reduced_without n a (length ps) (slice_index ps) h.reduced zeros;
    numbers = h.numbers;
    other_numbers = h.other_numbers;
  }

  pub column_with : (new_a new_t : Matrix) → length ps < a.rows →
      IsColumnCleared p n (length ps) a.rows a new_a t new_t →
      IsEliminated p (n + 1) old_a new_a old_t new_t (ps ++ n ∷ [])
  column_with new_a new_t within k = record {
    alike = k.kept.alike old_a old_t h.alike;
    reduced = reduced_push n new_a ps (k.kept.reduced (slice_index ps) h.reduced) (rw k.kept.rows within) k.one
        (λ i l other. k.zero_elsewhere i (rw (← k.kept.rows) l) other);
    numbers = k.kept.numbers;
    other_numbers = k.kept.other_numbers;
  }

pub eliminated_start : (p : ℕ) (a t : Matrix) → NumbersBelow p a → NumbersBelow p t → t.rows ≡ a.rows →
    IsEliminated p 0 a a t t []
eliminated_start p a t numbers other_numbers height = record {
  alike = alike_start p a t height;
  reduced = reduced_start a;
  numbers = numbers;
  other_numbers = other_numbers;
}

-- two rows are exchanged, the pivot's is multiplied to 1, and the column is cleared
pub pivot_made : (p col pivot row x c : ℕ) (a b d new t u v new_t : Matrix) → 2 ≤ p → col < a.cols → NumbersBelow p a →
    NumbersBelow p t → t.rows ≡ a.rows → IsFound a pivot row col → AreRowsExchanged a b pivot row →
    AreRowsExchanged t u pivot row → x ≡ b.entry pivot col → (x * c) % p ≡ 1 → IsRowMultiplied p b d pivot c →
    IsRowMultiplied p u v pivot c → IsColumnCleared p col pivot d.rows d new v new_t →
    IsColumnCleared p col pivot a.rows a new t new_t
pivot_made p col pivot row x c a b d new t u v new_t two column numbers other_numbers square found exchanged exchanged_t
    read inverse scaled scaled_t cleared =
    let pivot_row : pivot < a.rows = omega (arith, found.late, found.within) in
    let first : IsKept p col pivot a b t u =
    kept_exchanged p col pivot a b t u pivot row (omega arith) numbers other_numbers square (omega arith) pivot_row
    found.late found.within exchanged exchanged_t in
    let turned : c * x ≡ x * c = omega arith in
    let one : 1 % p ≡ 1 = mod-eq_of_lt two in
    let second : IsKept p col pivot b d u v =
    kept_multiplied p col pivot b d u v pivot c x (omega arith) (omega (arith, exchanged.cols)) first.numbers
    first.other_numbers (omega arith) (rw exchanged.rows pivot_row) (ap (λ z. z % p) turned ∙ inverse ∙ sym one)
    scaled scaled_t in
    let height : d.rows ≡ a.rows = scaled.rows ∙ exchanged.rows in
    record {
      kept = kept_after p col pivot a b new t u new_t first
          (kept_after p col pivot b d new u v new_t second cleared.kept);
      one = cleared.one;
      zero_elsewhere = λ i l other. cleared.zero_elsewhere i (rw height l) other;
    }

-- the end: the changed units are the trace, and all columns are reduced
module _ (p : ℕ) (a new_a t new_t : Matrix) (ps : List ℕ) (h : IsEliminated p a.cols a new_a t new_t ps) where
  pub eliminated_trace : AreUnits a.rows a.rows t → IsTrace p a new_a new_t
  eliminated_trace units = trace_from_units p a new_a t new_t units h.alike

  pub eliminated_echelon : IsEchelon new_a ps
  eliminated_echelon =
      subst (λ n. IsReducedBelow n new_a (length ps) (slice_index ps)) (sym h.alike.first.cols) h.reduced

  pub eliminated_has_trace : HasTrace p a new_a
  eliminated_has_trace = record { trace = h.alike.trace; is_trace = h.alike.first }
