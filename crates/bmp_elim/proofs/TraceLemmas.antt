-- A change of rows, made to the rows and to others alike, keeps the trace.
use Rattle.std.proofs.Common.{◌≡◌, ◌≢◌, ℕ, ◌*◌, ◌%◌, ◌<◌, refl, sym, ap, ◌∙◌, subst}
use Rattle.bmp_math.specs.Congruences.{SameMod}
use Rattle.bmp_math.specs.Vectors.{unit}
use Rattle.bmp_math.specs.Matrices.{Matrix, combination, image, IsInKernel}
use Rattle.bmp_math.proofs.CongruenceLemmas.{same_mul}
use Rattle.bmp_math.proofs.SumLemmas.{sum_below_same, sum_same_mod}
use Rattle.bmp_linear.specs.RowChanges.{IsRowAdded, IsRowMultiplied, AreRowsExchanged, AreMultiplesAdded}
use Rattle.bmp_elim.specs.Traces.{IsTrace, HasTrace, AreChangedAlike, AreUnits}
use Rattle.bmp_math.proofs.UnitLemmas.{unit_rows, unit_combination, combination_unit, image_unit}
use Rattle.bmp_elim.proofs.Mixes.{Mix, mixed, AreMixed, IsFaithfulMix, mixed-combination, mixed-image, mixed_same, added_mix, added_mixed, added_faithful, spread_mix, spread_mixed, spread_faithful, multiplied_mix, multiplied_mixed, multiplied_faithful, exchanged_mix, exchanged_mixed, exchanged_faithful}

-- the trace is mixed as the rows are
trace_mixed : (p : ℕ) (old a new t : Matrix) (mix : Mix) → IsFaithfulMix p old.rows mix → AreMixed p mix a new →
    IsTrace p old a t → IsTrace p old new (mixed mix t)
trace_mixed p old a new t mix faithful m h = record {
  rows = m.rows ∙ h.rows;
  cols = m.cols ∙ h.cols;
  trace_rows = h.trace_rows;
  trace_cols = h.trace_cols;
  gives = λ i l j b.
      m.mixes i j (rw h.rows l) (rw h.cols b)
      ∙ mixed_same p old.rows mix (λ k. a.entry k j) (λ k. combination (t.entry k) old.entry old.rows j) faithful
      (λ k c. h.gives k c j b) i l
      ∙ ap (λ z. z % p) (sym (mixed-combination old.rows mix t old.entry j i));
  faithful = λ y zeros.
      let kernel : IsInKernel p t y =
      λ i l. faithful.only_zero (image t y) (λ k c. ap (λ z. z % p) (sym (mixed-image mix t y k))
      ∙ zeros k (rw h.trace_rows c)) i (rw (← h.trace_rows) l) in
      h.faithful y kernel;
}

alike_mixed : (p : ℕ) (old_a a new_a old_t t new_t : Matrix) (mix : Mix) → IsFaithfulMix p old_a.rows mix →
    AreMixed p mix a new_a → AreMixed p mix t new_t → AreChangedAlike p old_a a old_t t →
    AreChangedAlike p old_a new_a old_t new_t
alike_mixed p old_a a new_a old_t t new_t mix faithful x y h =
    let height : old_a.rows ≡ old_t.rows = sym h.first.trace_rows ∙ h.second.trace_rows in
    record {
      trace = mixed mix h.trace;
      first = trace_mixed p old_a a new_a h.trace mix faithful x h.first;
      second = trace_mixed p old_t t new_t h.trace mix (subst (λ m. IsFaithfulMix p m mix) height faithful) y h.second;
    }

module _ (p : ℕ) (old_a a new_a old_t t new_t : Matrix) (h : AreChangedAlike p old_a a old_t t) where
  pub alike_added : (into from c : ℕ) → from < old_a.rows → into ≢ from → IsRowAdded p a new_a into from c →
      IsRowAdded p t new_t into from c → AreChangedAlike p old_a new_a old_t new_t
  alike_added into from c below apart x y =
      alike_mixed p old_a a new_a old_t t new_t (added_mix into from c)
      (added_faithful p old_a.rows into from c below apart) (added_mixed p a new_a into from c x)
      (added_mixed p t new_t into from c y) h

  pub alike_spread : (from : ℕ) (c : ℕ → ℕ) → from < old_a.rows → AreMultiplesAdded p a new_a from c →
      AreMultiplesAdded p t new_t from c → AreChangedAlike p old_a new_a old_t new_t
  alike_spread from c below x y =
      alike_mixed p old_a a new_a old_t t new_t (spread_mix from c) (spread_faithful p old_a.rows from c below)
      (spread_mixed p a new_a from c x) (spread_mixed p t new_t from c y) h

  pub alike_multiplied : (row c d : ℕ) → row < old_a.rows → SameMod p (c * d) 1 → IsRowMultiplied p a new_a row c →
      IsRowMultiplied p t new_t row c → AreChangedAlike p old_a new_a old_t new_t
  alike_multiplied row c d below inverse x y =
      alike_mixed p old_a a new_a old_t t new_t (multiplied_mix row c)
      (multiplied_faithful p old_a.rows row c d below inverse) (multiplied_mixed p a new_a row c x)
      (multiplied_mixed p t new_t row c y) h

  pub alike_exchanged : (r s : ℕ) → r < old_a.rows → s < old_a.rows → AreRowsExchanged a new_a r s →
      AreRowsExchanged t new_t r s → AreChangedAlike p old_a new_a old_t new_t
  alike_exchanged r s r_below s_below x y =
      alike_mixed p old_a a new_a old_t t new_t (exchanged_mix r s)
      (exchanged_faithful p old_a.rows r s r_below s_below) (exchanged_mixed p a new_a r s x)
      (exchanged_mixed p t new_t r s y) h

-- the units lead from rows to themselves
pub unit_trace : (p : ℕ) (a : Matrix) → IsTrace p a a (unit_rows a.rows)
unit_trace p a = record {
  rows = refl;
  cols = refl;
  trace_rows = refl;
  trace_cols = refl;
  gives = λ i l j b. ap (λ z. z % p) (sym (unit_combination a.rows i j a.entry l));
  faithful = λ y zeros k l. ap (λ z. z % p) (sym (image_unit a.rows k y l)) ∙ zeros k l;
}

pub alike_start : (p : ℕ) (a t : Matrix) → t.rows ≡ a.rows → AreChangedAlike p a a t t
alike_start p a t same = record {
  trace = unit_rows a.rows;
  first = unit_trace p a;
  second = subst (λ m. IsTrace p t t (unit_rows m)) same (unit_trace p t);
}

-- a trace with the same numbers is a trace
pub trace_same : (p : ℕ) (old new t u : Matrix) → u.rows ≡ t.rows → u.cols ≡ t.cols →
    ((i j : ℕ) → i < t.rows → j < t.cols → SameMod p (u.entry i j) (t.entry i j)) → IsTrace p old new t →
    IsTrace p old new u
trace_same p old new t u rows cols same h = record {
  rows = h.rows;
  cols = h.cols;
  trace_rows = rows ∙ h.trace_rows;
  trace_cols = cols ∙ h.trace_cols;
  gives = λ i l j b.
      h.gives i l j b
      ∙ sym (sum_same_mod p (λ k. u.entry i k * old.entry k j) (λ k. t.entry i k * old.entry k j) old.rows
      (λ k c. same_mul p (u.entry i k) (t.entry i k) (old.entry k j) (old.entry k j)
      (same i k (rw h.trace_rows l) (rw h.trace_cols c)) refl));
  faithful = λ y zeros.
      let kernel : IsInKernel p t y = λ i l.
      sym (sum_same_mod p (λ k. y k * u.entry i k) (λ k. y k * t.entry i k) t.cols
      (λ k c. same_mul p (y k) (y k) (u.entry i k) (t.entry i k) refl (same i k l c)))
      ∙ ap (λ n. image (record { rows = u.rows; cols = n; entry = u.entry }) y i % p) (sym cols)
      ∙ zeros i (rw rows l) in
      h.faithful y kernel;
}

-- the changed units are the trace
pub trace_from_units : (p : ℕ) (a new_a t new_t : Matrix) → AreUnits a.rows a.rows t →
    AreChangedAlike p a new_a t new_t → IsTrace p a new_a new_t
trace_from_units p a new_a t new_t units h =
    let rows : new_t.rows ≡ h.trace.rows = h.second.rows ∙ sym h.second.trace_rows in
    let cols : new_t.cols ≡ h.trace.cols = h.second.cols ∙ units.cols ∙ sym h.first.trace_cols in
    trace_same p a new_a h.trace new_t rows cols
    (λ i j l b.
    let row : i < t.rows = rw (← h.second.trace_rows) l in
    let row_a : i < a.rows = rw (← h.first.trace_rows) l in
    let column : j < a.rows = rw (← h.first.trace_cols) b in
    let whole : combination (h.trace.entry i) t.entry t.rows j ≡ h.trace.entry i j =
    ap (λ m. combination (h.trace.entry i) t.entry m j) units.rows
    ∙ sum_below_same (λ k. h.trace.entry i k * t.entry k j) (λ k. h.trace.entry i k * unit k j) a.rows
    (λ k c. ap (λ z. h.trace.entry i k * z) (units.units k j c column))
    ∙ combination_unit a.rows j (h.trace.entry i) column in
    h.second.gives i row j (rw units.cols column) ∙ ap (λ z. z % p) whole)
    h.first

pub has_trace : (p : ℕ) (a new_a t new_t : Matrix) → AreChangedAlike p a new_a t new_t → HasTrace p a new_a
has_trace p a new_a t new_t h = record { trace = h.trace; is_trace = h.first }
