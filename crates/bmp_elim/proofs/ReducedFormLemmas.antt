-- Every matrix has a reduced form: column by column, as the elimination makes it.
use Rattle.std.proofs.Common.{◌≡◌, ◌≢◌, ℕ, zero, suc, ◌+◌, ◌*◌, ◌%◌, ◌<◌, ◌≤◌, ◌⊎◌, List, [], ◌∷◌, ◌++◌, length, cond, eqb, inl, inr, refl, sym, ap, ◌∙◌, subst, arith, eq-eqb, ne_eqb, mod-lt}
use Rattle.std.proofs.Math.Nat.{mod-mod, zero-mod}
use Rattle.std.proofs.lemmas.Bool.{cases_eq, cases_lt, cond-true, cond-false}
use Rattle.bmp_math.specs.Matrices.{Matrix, NumbersBelow}
use Rattle.bmp_math.proofs.CongruenceLemmas.{same_mul, minus_same}
use Rattle.bmp_math.proofs.SumLemmas.{sum_same_mod}
use Rattle.bmp_linear.specs.RowChanges.{IsRowAdded, IsRowMultiplied, AreRowsExchanged}
use Rattle.bmp_linear.proofs.RowChangeLemmas.{numbers_below-multiplied, numbers_below-exchanged}
use Rattle.bmp_elim.specs.Laws.{HasInverses, HasReducedForm}
use Rattle.bmp_elim.specs.Steps.{IsZeroFrom, IsFound, IsColumnCleared, IsEliminated}
use Rattle.bmp_elim.specs.Traces.{IsTrace, HasTrace}
use Rattle.bmp_elim.proofs.Mixes.{other_row, other_row-first, other_row-second, other_row-none}
use Rattle.bmp_elim.proofs.StepLemmas.{cleared_start, cleared_skip, cleared_more, pivot_made, column_with, column_without, eliminated_start, eliminated_echelon, eliminated_has_trace}

abbrev exchanged : Matrix → ℕ → ℕ → Matrix
exchanged a r s = record { rows = a.rows; cols = a.cols; entry = λ i. a.entry (other_row r s i) }

exchanged_rows : (a : Matrix) (r s : ℕ) → AreRowsExchanged a (exchanged a r s) r s
exchanged_rows a r s = record {
  rows = refl;
  cols = refl;
  at_first = λ j l. ap (λ i. a.entry i j) (other_row-first r s);
  at_second = λ j l. ap (λ i. a.entry i j) (other_row-second r s);
  others = λ i j l b x y. ap (λ k. a.entry k j) (other_row-none r s i x y);
}

abbrev multiplied : ℕ → Matrix → ℕ → ℕ → Matrix
multiplied p a r c = record {
  rows = a.rows;
  cols = a.cols;
  entry = λ i j. cond (eqb i r) ((c * a.entry r j) % p) (a.entry i j);
}

multiplied_row : (p : ℕ) (a : Matrix) (r c : ℕ) → IsRowMultiplied p a (multiplied p a r c) r c
multiplied_row p a r c = record {
  rows = refl;
  cols = refl;
  multiplied = λ j l. cond-true {A = ℕ} (eqb r r) ((c * a.entry r j) % p) (a.entry r j) (eq-eqb r r refl);
  others = λ i j l b other. cond-false {A = ℕ} (eqb i r) ((c * a.entry r j) % p) (a.entry i j) (ne_eqb i r other);
}

abbrev added : ℕ → Matrix → ℕ → ℕ → ℕ → Matrix
added p a into from c = record {
  rows = a.rows;
  cols = a.cols;
  entry = λ i j. cond (eqb i into) ((a.entry into j + c * a.entry from j) % p) (a.entry i j);
}

added_row : (p : ℕ) (a : Matrix) (into from c : ℕ) → IsRowAdded p a (added p a into from c) into from c
added_row p a into from c = record {
  rows = refl;
  cols = refl;
  added = λ j l. cond-true {A = ℕ} (eqb into into) ((a.entry into j + c * a.entry from j) % p) (a.entry into j)
      (eq-eqb into into refl);
  others = λ i j l b other. cond-false {A = ℕ} (eqb i into) ((a.entry into j + c * a.entry from j) % p) (a.entry i j)
      (ne_eqb i into other);
}

record HasCleared (p col pivot n : ℕ) (a : Matrix) : Type 0 where
  new : Matrix
  is : IsColumnCleared p col pivot n a new a new

record HasEliminated (p n : ℕ) (a : Matrix) : Type 0 where
  new : Matrix
  pivots : List ℕ
  is : IsEliminated p n a new a new pivots

one_more : (n : ℕ) → n + 1 ≡ suc n
one_more n = omega arith

-- the first n rows are cleared
cleared_to : (q col pivot : ℕ) (a : Matrix) → NumbersBelow (suc q) a → pivot < a.rows → col < a.cols
    → a.entry pivot col ≡ 1 → (n : ℕ) → n ≤ a.rows → HasCleared (suc q) col pivot n a
cleared_to q col pivot a numbers row column one zero l = record {
  new = a;
  is = cleared_start (suc q) col pivot a a numbers numbers one;
}
cleared_to q col pivot a numbers row column one (suc n) l =
    let h : HasCleared (suc q) col pivot n a = cleared_to q col pivot a numbers row column one n (omega arith) in
    elim (cases_eq n pivot) [
      | inl same ↦ record {
        new = h.new;
        is = subst (λ m. IsColumnCleared (suc q) col pivot m a h.new a h.new) (one_more n)
            (cleared_skip (suc q) col pivot n a h.new a h.new (λ other. absurd (other same)) h.is);
      }
      | inr apart ↦
          let x : ℕ = h.new.entry n col in
          let new : Matrix = added (suc q) h.new n pivot (q * x) in
          let is_added : IsRowAdded (suc q) h.new new n pivot (q * x) = added_row (suc q) h.new n pivot (q * x) in
          record {
            new = new;
            is = subst (λ m. IsColumnCleared (suc q) col pivot m a new a new) (one_more n)
                (cleared_more (suc q) col pivot n x (q * x) a h.new new a h.new new (omega arith) (omega arith) row
                column apart refl (minus_same q x x refl ∙ zero-mod (suc q)) is_added is_added h.is);
          }
    ]

-- the first of the rows that isn't 0 at the column, among the first n
found_below : (a : Matrix) (count col n : ℕ) → n ≤ a.rows
    → IsZeroFrom a count n col ⊎ ((row : ℕ) × IsFound a count row col)
found_below a count col zero l = inl (λ i late b. absurd (omega arith))
found_below a count col (suc n) l = elim (found_below a count col n (omega arith)) [
  | inr found ↦ inr found
  | inl zeros ↦ elim (cases_lt n count) [
    | inl early ↦ inl (λ i late b. absurd (omega arith))
    | inr late ↦ elim (cases_eq (a.entry n col) 0) [
      | inl none ↦ inl (λ i after b. elim (cases_eq i n) [
        | inl last ↦ ap (λ r. a.entry r col) last ∙ none
        | inr other ↦ zeros i after (omega arith)
      ])
      | inr some ↦ inr (n, record { late = late; within = omega arith; not_zero = some })
    ]
  ]
]

module _ (q : ℕ) (h : HasInverses (suc q)) where
  -- a row that isn't 0 at the column becomes a pivot's
  pivot_at : (a : Matrix) (pivot row col : ℕ) → NumbersBelow (suc q) a → col < a.cols → IsFound a pivot row col
      → HasCleared (suc q) col pivot a.rows a
  pivot_at a pivot row col numbers column found =
      let pivot_row : pivot < a.rows = omega (arith, found.late, found.within) in
      let b : Matrix = exchanged a pivot row in
      let is_b : AreRowsExchanged a b pivot row = exchanged_rows a pivot row in
      let numbers_b : NumbersBelow (suc q) b =
      numbers_below-exchanged (suc q) a b pivot row pivot_row found.within numbers is_b in
      let x : ℕ = b.entry pivot col in
      let some : x ≢ 0 = λ e. found.not_zero (sym (is_b.at_first col column) ∙ e) in
      let inverse = h.inverse x (numbers_b pivot col pivot_row column) some in
      let d : Matrix = multiplied (suc q) b pivot inverse.0 in
      let is_d : IsRowMultiplied (suc q) b d pivot inverse.0 = multiplied_row (suc q) b pivot inverse.0 in
      let numbers_d : NumbersBelow (suc q) d =
      numbers_below-multiplied (suc q) b d pivot inverse.0 (omega arith) numbers_b is_d in
      let turned : inverse.0 * x ≡ x * inverse.0 = omega arith in
      let one : d.entry pivot col ≡ 1 = is_d.multiplied col column ∙ ap (λ z. z % suc q) turned ∙ inverse.2 in
      let cleared : HasCleared (suc q) col pivot a.rows d =
      cleared_to q col pivot d numbers_d pivot_row column one a.rows (omega arith) in
      record {
        new = cleared.new;
        is = pivot_made (suc q) col pivot row x inverse.0 a b d cleared.new a b d cleared.new h.at_least_two column
            numbers numbers refl found is_b is_b refl inverse.2 is_d is_d cleared.is;
      }

  -- the first n columns are reduced
  eliminated_to : (a : Matrix) → NumbersBelow (suc q) a → (n : ℕ) → n ≤ a.cols → HasEliminated (suc q) n a
  eliminated_to a numbers zero l = record {
    new = a;
    pivots = [];
    is = eliminated_start (suc q) a a numbers numbers refl;
  }
  eliminated_to a numbers (suc n) l =
      let e : HasEliminated (suc q) n a = eliminated_to a numbers n (omega arith) in
      elim (found_below e.new (length e.pivots) n e.new.rows (omega arith)) [
        | inl zeros ↦ record {
          new = e.new;
          pivots = e.pivots;
          is = subst (λ m. IsEliminated (suc q) m a e.new a e.new e.pivots) (one_more n)
              (column_without (suc q) n a e.new a e.new e.pivots e.is zeros);
        }
        | inr found ↦
            let column : n < e.new.cols = omega (arith, e.is.alike.first.cols) in
            let row = found.0 in
            let is_found : IsFound e.new (length e.pivots) found.0 n = found.1 in
            let k : HasCleared (suc q) n (length e.pivots) e.new.rows e.new =
            pivot_at e.new (length e.pivots) found.0 n e.is.numbers column is_found in
            record {
              new = k.new;
              pivots = e.pivots ++ n ∷ [];
              is = subst (λ m. IsEliminated (suc q) m a k.new a k.new (e.pivots ++ n ∷ [])) (one_more n)
                  (column_with (suc q) n a e.new a e.new e.pivots e.is k.new k.new
                  (omega (arith, is_found.late, is_found.within)) k.is);
            }
      ]

abbrev remainders : ℕ → Matrix → Matrix
remainders p a = record { rows = a.rows; cols = a.cols; entry = λ i j. a.entry i j % p }

-- what leads from the remainders leads from the rows
trace_of_remainders : (p : ℕ) (a new t : Matrix) → IsTrace p (remainders p a) new t → IsTrace p a new t
trace_of_remainders p a new t h = record {
  rows = h.rows;
  cols = h.cols;
  trace_rows = h.trace_rows;
  trace_cols = h.trace_cols;
  gives = λ i l j b.
      h.gives i l j b
      ∙ sum_same_mod p (λ k. t.entry i k * (a.entry k j % p)) (λ k. t.entry i k * a.entry k j) a.rows
      (λ k c. same_mul p (t.entry i k) (t.entry i k) (a.entry k j % p) (a.entry k j) refl (mod-mod (a.entry k j) p));
  faithful = h.faithful;
}

pub reduced_form : (p : ℕ) → HasInverses p → (a : Matrix) → HasReducedForm p a
reduced_form zero h a = absurd (omega (arith, h.at_least_two))
reduced_form (suc q) h a =
    let b : Matrix = remainders (suc q) a in
    let e : HasEliminated (suc q) b.cols b =
    eliminated_to q h b (λ i j l m. mod-lt (a.entry i j) (omega arith)) b.cols (omega arith) in
    let led : HasTrace (suc q) b e.new = eliminated_has_trace (suc q) b e.new b e.new e.pivots e.is in
    record {
      rows = e.new;
      pivots = e.pivots;
      trace = record { trace = led.trace; is_trace = trace_of_remainders (suc q) a e.new led.trace led.is_trace };
      echelon = eliminated_echelon (suc q) b e.new b e.new e.pivots e.is;
    }
