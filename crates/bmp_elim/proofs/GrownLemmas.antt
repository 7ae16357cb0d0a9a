-- A basis with a row more: the row is a combination of the reduced ones, or it is chosen.
use Rattle.std.proofs.Common.{◌≡◌, ℕ, zero, suc, ◌+◌, ◌-◌, ◌*◌, ◌%◌, ◌<◌, ◌≤◌, List, [], ◌∷◌, ◌++◌, length, get_or, inl, inr, refl, sym, ap, ap₂, ◌∙◌, subst, cond, eqb, eq-eqb, ne_eqb, arith}
use Rattle.std.proofs.Math.Nat.{mod-eq_of_lt, zero-mod, mod-mod, mod-lt}
use Rattle.std.proofs.lemmas.Bool.{cases_eq, cases_lt, cond-true, cond-false}
use Rattle.std.proofs.lemmas.List.{get_or_push, get_or_append_left, length-append}
use Rattle.std.proofs.lemmas.List.Elements.{All-push}
use Rattle.bmp_math.specs.Sums.{sum_below}
use Rattle.bmp_math.specs.Congruences.{SameMod}
use Rattle.bmp_math.specs.Vectors.{SameVector}
use Rattle.bmp_math.specs.Matrices.{Matrix, SameMatrix, combination, image, IsInKernel}
use Rattle.bmp_math.proofs.CongruenceLemmas.{same_add, same_mul, same_cancel, same_past, same_below, mul_zero, zero_mul}
use Rattle.bmp_math.proofs.SumLemmas.{sum_below_more, sum_below_same, sum_below-zero, sum_below-suc, sum_below-zeros, sum_below-add, sum_below-mul, sum_same_mod, sum_zero_mod, sum_only_mod}
use Rattle.bmp_math.proofs.MatrixLemmas.{combination-combination}
use Rattle.bmp_linear.specs.declared.vector.Entry.{Entry}
use Rattle.bmp_linear.specs.SparseVectors.{IsSparse, FitsBelow, number_at}
use Rattle.bmp_linear.specs.RowChanges.{IsRowPushed}
use Rattle.bmp_linear.proofs.RowVectorLemmas.{values_from_numbers}
use Rattle.bmp_elim.specs.Traces.{IsTrace}
use Rattle.bmp_elim.specs.Extensions.{AreChosen}
use Rattle.bmp_elim.specs.GrowingBases.{chosen_rows, IsRowCombination, HasLeading, IsGrown, IsRemainder, IsFirstPlace, IsMultiplied, IsPivotPushed, IsNegated, WritesRow}
use Rattle.bmp_elim.proofs.GrowthLemmas.{extended, combination_more}

-- a term goes to the other side as its minus
minus_sum : (p x y z : ℕ) → 2 ≤ p → SameMod p (x + y) z → SameMod p x (z + (p - 1) * y)
minus_sum zero x y z two same = absurd (omega arith)
minus_sum (suc q) x y z two same =
    let one : suc q - 1 ≡ q = omega arith in
    let whole : (z + q * y) + y ≡ z + suc q * y = omega arith in
    same_cancel (suc q) x (z + q * y) y (same ∙ sym (ap (λ n. n % suc q) whole ∙ same_past (suc q) z y))
    ∙ ap (λ r. (z + r * y) % suc q) (sym one)

zero_plus : (x : ℕ) → 0 + x ≡ x
zero_plus x = omega arith

combination_scaled : (c : ℕ) (factors : ℕ → ℕ) (vs : ℕ → ℕ → ℕ) (n j : ℕ) →
    combination (λ k. c * factors k) vs n j ≡ c * combination factors vs n j
combination_scaled c factors vs n j =
    sum_below_same (λ i. (c * factors i) * vs i j) (λ i. c * (factors i * vs i j)) n (λ i l. omega arith)
    ∙ sum_below-mul c (λ i. factors i * vs i j) n

-- a trace from equal rows
trace_from_same : {p : ℕ} {old other a t : Matrix} → SameMatrix other old → IsTrace p old a t → IsTrace p other a t
trace_from_same {p} {old} {other} {a} {t} same h = record {
  rows = h.rows ∙ sym same.rows;
  cols = h.cols ∙ sym same.cols;
  trace_rows = h.trace_rows ∙ sym same.rows;
  trace_cols = h.trace_cols ∙ sym same.rows;
  gives = λ i l j b.
      h.gives i (rw (← same.rows) l) j (rw (← same.cols) b)
      ∙ ap (λ z. z % p)
      (sum_below_same (λ k. t.entry i k * old.entry k j) (λ k. t.entry i k * other.entry k j) old.rows
      (λ k c. ap (λ z. t.entry i k * z) (sym (same.entries k j c (rw (← same.cols) b))))
      ∙ ap (λ n. combination (t.entry i) other.entry n j) (sym same.rows));
  faithful = λ y zeros k l. h.faithful y zeros k (rw (← same.rows) l);
}

-- rows of which there is one more have the old combinations
combination_kept : {p : ℕ} {a b : Matrix} {x v : ℕ → ℕ} → IsRowPushed a b x → IsRowCombination p a v →
    IsRowCombination p b v
combination_kept {p} {a} {b} {x} {v} pushed h = record {
  factors = extended h.factors a.rows 0;
  sums = λ j l.
      let inside : j < a.cols = rw (← pushed.cols) l in
      let same : combination h.factors b.entry a.rows j ≡ combination h.factors a.entry a.rows j =
      sum_below_same (λ k. h.factors k * b.entry k j) (λ k. h.factors k * a.entry k j) a.rows
      (λ k c. ap (λ z. h.factors k * z) (pushed.others k j c inside)) in
      let more = combination_more h.factors a.rows 0 b.entry j in
      let whole : combination (extended h.factors a.rows 0) b.entry (a.rows + 1) j ≡ combination h.factors a.entry
      a.rows j = omega (arith, more, same) in
      h.sums j inside ∙ ap (λ z. z % p) (sym whole
      ∙ ap (λ n. combination (extended h.factors a.rows 0) b.entry n j) (sym pushed.rows));
}

-- equal rows are combinations alike
combination_same : {p : ℕ} {a : Matrix} {v w : ℕ → ℕ} → ((j : ℕ) → j < a.cols → w j ≡ v j) →
    IsRowCombination p a v → IsRowCombination p a w
combination_same {p} same h = record { factors = h.factors; sums = λ j l. ap (λ z. z % p) (same j l) ∙ h.sums j l }

chosen_within : {old new : Matrix} {v : ℕ → ℕ} {chosen : List ℕ} → IsRowPushed old new v → AreChosen old chosen →
    (k : ℕ) → k < length chosen → get_or chosen k 0 < old.rows
chosen_within {chosen = chosen} pushed h k l = h.below k 0 l

chosen_same : {old new : Matrix} {v : ℕ → ℕ} {chosen : List ℕ} → IsRowPushed old new v → AreChosen old chosen →
    SameMatrix (chosen_rows chosen new) (chosen_rows chosen old)
chosen_same {chosen = chosen} pushed h = record {
  rows = refl;
  cols = pushed.cols;
  entries = λ k j l b. pushed.others (get_or chosen k 0) j (h.below k 0 l) b;
}

module _ {p : ℕ} {old new a t : Matrix} {ps chosen w u : List ℕ} {count : ℕ} {v : ℕ → ℕ} (two : 2 ≤ p)
    (h : IsGrown p old a t ps chosen count) (pushed : IsRowPushed old new v)
    (left : IsRemainder p (length ps) a t ps v w u) where
  -- the factors of the remainder, turned
  abbrev minus : ℕ → ℕ
  minus k = (p - 1) * left.factors k

  remainder_sum : (j : ℕ) → j < a.cols → SameMod p (v j) (get_or w j 0 + combination minus a.entry a.rows j)
  remainder_sum j l =
      minus_sum p (v j) (combination left.factors a.entry (length ps) j) (get_or w j 0) two (sym (left.left j l))
      ∙ ap (λ z. (get_or w j 0 + z) % p)
      (sym (combination_scaled (p - 1) left.factors a.entry (length ps) j)
      ∙ ap (λ n. combination minus a.entry n j) h.leading.one_for_each)

  old_column : (j : ℕ) → j < a.cols → j < old.cols
  old_column j l = rw (← h.trace.cols) l

  -- an old row stays a combination
  old_written : (i : ℕ) → i < old.rows → IsRowCombination p a (new.entry i)
  old_written i l = combination_same (λ j b. pushed.others i j l (old_column j b)) (h.written i l)

  new_count : new.rows ≡ count + 1
  new_count = omega (arith, pushed.rows, h.as_many)

  -- no number is left: nothing is chosen
  pub grown_kept : ((j : ℕ) → j < length w → get_or w j 0 ≡ 0) → length w ≡ a.cols →
      IsGrown p new a t ps chosen (count + 1)
  grown_kept none width = record {
    as_many = new_count;
    choice = record {
      rise = h.choice.rise;
      below = λ k d l. let below = h.choice.below k d l in omega (arith, pushed.rows);
    };
    leading = h.leading;
    trace = trace_from_same (chosen_same pushed h.choice) h.trace;
    numbers = h.numbers;
    trace_numbers = h.trace_numbers;
    written = λ i l. elim (cases_eq i old.rows) [
      | inl last ↦ record {
        factors = minus;
        sums = λ j b.
            let zero_left : get_or w j 0 ≡ 0 = none j (rw width b) in
            let whole : get_or w j 0 + combination minus a.entry a.rows j ≡ combination minus a.entry a.rows j = omega
            (arith, zero_left) in
            ap (λ k. new.entry k j % p) last ∙ ap (λ z. z % p) (pushed.pushed j (old_column j b)) ∙ remainder_sum j b
            ∙ ap (λ z. z % p) whole;
      }
      | inr other ↦ old_written i (omega (arith, pushed.rows))
    ];
  }

  height : length chosen ≡ a.rows
  height = sym h.trace.rows

  -- what the remainder is of the chosen rows
  remainder_chosen : (j : ℕ) → j < old.cols →
      SameMod p (get_or w j 0) (v j + combination (λ l. get_or u l 0) (chosen_rows chosen old).entry (length chosen) j)
  remainder_chosen j b =
      let C = chosen_rows chosen old in
      let inside : j < a.cols = rw h.trace.cols b in
      let n : ℕ = length ps in
      let rows : n ≡ a.rows = h.leading.one_for_each in
      let by_trace : SameMod p (combination left.factors a.entry n j) (combination left.factors (λ k. combination
      (t.entry k) C.entry (length chosen)) n j) =
      sum_same_mod p (λ k. left.factors k * a.entry k j) (λ k. left.factors k * combination (t.entry k) C.entry (length
      chosen) j) n
      (λ k l. same_mul p (left.factors k) (left.factors k) (a.entry k j) (combination (t.entry k) C.entry (length
      chosen) j) refl (h.trace.gives k (omega (arith, height, rows)) j b)) in
      let turned : combination left.factors (λ k. combination (t.entry k) C.entry (length chosen)) n j ≡ combination
      (combination left.factors t.entry n) C.entry (length chosen) j =
      combination-combination left.factors t.entry C.entry n (length chosen) j in
      let by_factors : SameMod p (combination (combination left.factors t.entry n) C.entry (length chosen) j)
      (combination (λ l. get_or u l 0) C.entry (length chosen) j) =
      sum_same_mod p (λ l. combination left.factors t.entry n l * C.entry l j) (λ l. get_or u l 0 * C.entry l j) (length
      chosen)
      (λ l m. same_mul p (combination left.factors t.entry n l) (get_or u l 0) (C.entry l j) (C.entry l j)
      (sym (left.factors_left l (rw h.trace.trace_cols m))) refl) in
      left.left j inside
      ∙ same_add p (v j) (v j) (combination left.factors a.entry n j) (combination (λ l. get_or u l 0) C.entry (length
      chosen) j) refl (by_trace ∙ ap (λ z. z % p) turned ∙ by_factors)

  -- where no number is left, the factors write the row by the chosen ones
  pub written_by_chosen : ((j : ℕ) → j < length w → get_or w j 0 ≡ 0) → length w ≡ a.cols →
      SameVector p old.cols v (combination (λ l. (p - 1) * get_or u l 0) (chosen_rows chosen old).entry (length chosen))
  written_by_chosen none width j b =
      let x : ℕ = combination (λ l. get_or u l 0) (chosen_rows chosen old).entry (length chosen) j in
      let inside : j < length w = rw (width, h.trace.cols) b in
      let zero_left : get_or w j 0 ≡ 0 = none j inside in
      minus_sum p (v j) x (get_or w j 0) two (sym (remainder_chosen j b))
      ∙ ap (λ z. (z + (p - 1) * x) % p) zero_left
      ∙ ap (λ z. z % p) (zero_plus ((p - 1) * x) ∙ sym (combination_scaled (p - 1) (λ l. get_or u l 0) (chosen_rows
      chosen old).entry (length chosen) j))

  module _ {q : ℕ} {new_a new_t : Matrix} (first : IsFirstPlace w q)
      (wide : length w ≡ a.cols) (more : IsPivotPushed p q w u a t new_a new_t) where
    abbrev chosen_more : List ℕ
    chosen_more = chosen ++ count ∷ []

    abbrev places : List ℕ
    places = ps ++ q ∷ []

    abbrev old_rows : Matrix
    old_rows = chosen_rows chosen old

    abbrev new_rows : Matrix
    new_rows = chosen_rows chosen_more new

    chosen_count : length chosen_more ≡ a.rows + 1
    chosen_count = simp length-append (omega (arith, height))

    place_count : length places ≡ a.rows + 1
    place_count = simp length-append (omega (arith, h.leading.one_for_each))

    place_before : (k : ℕ) → k < a.rows → get_or places k 0 ≡ get_or ps k 0
    place_before k l = get_or_append_left ps (q ∷ []) 0 k (rw h.leading.one_for_each l)

    place_last : get_or places a.rows 0 ≡ q
    place_last = get_or_push ps q 0 a.rows h.leading.one_for_each

    -- the chosen rows are those of before, and the row that came
    row_before : (k j : ℕ) → k < a.rows → j < old.cols → new_rows.entry k j ≡ old_rows.entry k j
    row_before k j l b =
        ap (λ i. new.entry i j) (get_or_append_left chosen (count ∷ []) 0 k (rw height l))
        ∙ pushed.others (get_or chosen k 0) j (h.choice.below k 0 (rw height l)) b

    row_last : (j : ℕ) → j < old.cols → new_rows.entry a.rows j ≡ v j
    row_last j b =
        ap (λ i. new.entry i j) (get_or_push chosen count 0 a.rows height ∙ sym h.as_many) ∙ pushed.pushed j b

    -- a combination of them
    combination_of : (c : ℕ → ℕ) (j : ℕ) → j < old.cols → combination c new_rows.entry (length chosen_more) j ≡
        combination c old_rows.entry (length chosen) j + c a.rows * v j
    combination_of c j b =
        ap (λ n. combination c new_rows.entry n j) chosen_count
        ∙ sum_below_more (λ k. c k * new_rows.entry k j) a.rows
        ∙ ap₂ (λ x y. x + y)
        (sum_below_same (λ k. c k * new_rows.entry k j) (λ k. c k * old_rows.entry k j) a.rows
        (λ k l. ap (λ z. c k * z) (row_before k j l b))
        ∙ ap (λ n. combination c old_rows.entry n j) (sym height))
        (ap (λ z. c a.rows * z) (row_last j b))

    trace_height : t.rows ≡ a.rows
    trace_height = h.trace.trace_rows ∙ height

    trace_width : t.cols ≡ a.rows
    trace_width = h.trace.trace_cols ∙ height

    new_width : new_t.cols ≡ a.rows + 1
    new_width = more.trace_row.cols ∙ ap (λ n. n + 1) trace_width

    trace_before : (k l : ℕ) → k < a.rows → l < a.rows → new_t.entry k l ≡ t.entry k l
    trace_before k l m b = more.trace_row.others k l (rw trace_height m) (rw trace_width b)

    -- the rows of before need nothing of the row that came
    trace_above : (k : ℕ) → k < a.rows → new_t.entry k a.rows ≡ 0
    trace_above k l = ap (new_t.entry k) (sym trace_width) ∙ more.trace_row.zero_above k (rw trace_height l)

    last_factor : (l : ℕ) → l < a.rows → new_t.entry a.rows l ≡ (more.factor * get_or u l 0) % p
    last_factor l m =
        ap (λ k. new_t.entry k l) (sym trace_height) ∙ more.trace_row.pushed l (omega (arith, m, trace_width))
        ∙ ap (λ z. (more.factor * z) % p) (cond-false {A = ℕ} (eqb l t.rows) 1 (get_or u l 0) (ne_eqb l t.rows (λ e.
        absurd (omega (arith, trace_height)))))

    own_factor : new_t.entry a.rows a.rows ≡ more.factor % p
    own_factor =
        let one : more.factor * 1 ≡ more.factor = omega arith in
        ap (λ k. new_t.entry k a.rows) (sym trace_height) ∙ more.trace_row.pushed a.rows (omega (arith, trace_width))
        ∙ ap (λ z. (more.factor * z) % p) (cond-true {A = ℕ} (eqb a.rows t.rows) 1 (get_or u a.rows 0) (eq-eqb a.rows
        t.rows (sym trace_height)))
        ∙ ap (λ z. z % p) one

    row_made : (j : ℕ) → j < a.cols → new_a.entry a.rows j ≡ (more.factor * get_or w j 0) % p
    row_made j b = more.row.pushed j b

    trace_gives : (i j : ℕ) → i < a.rows + 1 → j < old.cols →
        SameMod p (new_a.entry i j) (combination (new_t.entry i) new_rows.entry (length chosen_more) j)
    trace_gives i j l b = elim (cases_eq i a.rows) [
      | inl last ↦
          let inside : j < a.cols = rw h.trace.cols b in
          let c : ℕ = more.factor in
          let x : ℕ = combination (λ k. get_or u k 0) old_rows.entry (length chosen) j in
          let terms : SameMod p (combination (new_t.entry a.rows) old_rows.entry (length chosen) j) (combination (λ k.
          c * get_or u k 0) old_rows.entry (length chosen) j) =
          sum_same_mod p (λ k. new_t.entry a.rows k * old_rows.entry k j) (λ k. (c * get_or u k 0) * old_rows.entry k
          j) (length chosen)
          (λ k m. same_mul p (new_t.entry a.rows k) (c * get_or u k 0) (old_rows.entry k j) (old_rows.entry k j)
          (ap (λ z. z % p) (last_factor k (rw (← height) m)) ∙ mod-mod (c * get_or u k 0) p) refl) in
          let scaled : combination (λ k. c * get_or u k 0) old_rows.entry (length chosen) j ≡ c * x =
          combination_scaled c (λ k. get_or u k 0) old_rows.entry (length chosen) j in
          let own : SameMod p (new_t.entry a.rows a.rows * v j) (c * v j) = same_mul p (new_t.entry a.rows a.rows) c
          (v j) (v j) (ap (λ z. z % p) own_factor ∙ mod-mod c p) refl in
          let turned : c * (v j + x) ≡ c * x + c * v j = omega arith in
          ap (λ k. new_a.entry k j % p) last
          ∙ ap (λ z. z % p) (row_made j inside) ∙ mod-mod (c * get_or w j 0) p
          ∙ same_mul p c c (get_or w j 0) (v j + x) refl (remainder_chosen j b)
          ∙ ap (λ z. z % p) turned
          ∙ sym (same_add p (combination (new_t.entry a.rows) old_rows.entry (length chosen) j) (c * x)
          (new_t.entry a.rows a.rows * v j) (c * v j) (terms ∙ ap (λ z. z % p) scaled) own)
          ∙ ap (λ z. z % p) (sym (combination_of (new_t.entry a.rows) j b))
          ∙ ap (λ k. combination (new_t.entry k) new_rows.entry (length chosen_more) j % p) (sym last)
      | inr other ↦
          let early : i < a.rows = omega arith in
          let none : new_t.entry i a.rows ≡ 0 = trace_above i early in
          let same : combination (new_t.entry i) old_rows.entry (length chosen) j ≡ combination (t.entry i)
          old_rows.entry (length chosen) j =
          sum_below_same (λ k. new_t.entry i k * old_rows.entry k j) (λ k. t.entry i k * old_rows.entry k j) (length
          chosen)
          (λ k m. ap (λ z. z * old_rows.entry k j) (trace_before i k early (rw (← height) m))) in
          let whole : combination (new_t.entry i) old_rows.entry (length chosen) j + new_t.entry i a.rows * v j ≡
          combination (t.entry i) old_rows.entry (length chosen) j =
          ap₂ (λ x y. x + y * v j) same none ∙ omega arith in
          ap (λ z. z % p) (more.row.others i j early (rw h.trace.cols b))
          ∙ h.trace.gives i (rw height early) j b
          ∙ ap (λ z. z % p) (sym (combination_of (new_t.entry i) j b ∙ whole))
    ]

    -- what a row of the trace says of numbers
    trace_says : (y : ℕ → ℕ) (i : ℕ) → image new_t y i ≡
        sum_below (λ k. y k * new_t.entry i k) a.rows + y a.rows * new_t.entry i a.rows
    trace_says y i =
        ap (λ n. sum_below (λ k. y k * new_t.entry i k) n) new_width
        ∙ sum_below_more (λ k. y k * new_t.entry i k) a.rows

    trace_faithful : (y : ℕ → ℕ) → IsInKernel p new_t y →
        (k : ℕ) → k < a.rows + 1 → SameMod p (y k) 0
    trace_faithful y kernel k l =
        let c : ℕ = more.factor in
        let old_kernel : IsInKernel p t y = λ i m.
        let early : i < a.rows = rw (← trace_height) m in
        let none : new_t.entry i a.rows ≡ 0 = trace_above i early in
        let same : sum_below (λ k. y k * new_t.entry i k) a.rows ≡ sum_below (λ k. y k * t.entry i k) a.rows =
        sum_below_same (λ k. y k * new_t.entry i k) (λ k. y k * t.entry i k) a.rows (λ k b. ap (λ z. y k * z)
        (trace_before i k early b)) in
        let whole : sum_below (λ k. y k * new_t.entry i k) a.rows + y a.rows * new_t.entry i a.rows ≡ sum_below (λ k.
        y k * t.entry i k) a.rows = ap₂ (λ x z. x + y a.rows * z) same none ∙ omega arith in
        ap (λ n. sum_below (λ k. y k * t.entry i k) n % p) trace_width
        ∙ ap (λ z. z % p) (sym (trace_says y i ∙ whole))
        ∙ kernel i (omega (arith, more.trace_row.rows, trace_height, early)) in
        let before : (k : ℕ) → k < a.rows → SameMod p (y k) 0 =
        λ k m. h.trace.faithful y old_kernel k (rw height m) in
        elim (cases_eq k a.rows) [
          | inl last ↦
              let zeros : SameMod p (sum_below (λ k. y k * new_t.entry a.rows k) a.rows) 0 =
              sum_zero_mod p (λ k. y k * new_t.entry a.rows k) a.rows (λ k b. zero_mul p (y k) (new_t.entry a.rows k)
              (before k b)) in
              let said : SameMod p (0 + y a.rows * new_t.entry a.rows a.rows) 0 =
              sym (same_add p (sum_below (λ k. y k * new_t.entry a.rows k) a.rows) 0 (y a.rows * new_t.entry a.rows
              a.rows) (y a.rows * new_t.entry a.rows a.rows) zeros refl)
              ∙ ap (λ z. z % p) (sym (trace_says y a.rows))
              ∙ kernel a.rows (omega (arith, more.trace_row.rows, trace_height)) in
              let none : 0 + y a.rows * new_t.entry a.rows a.rows ≡ y a.rows * new_t.entry a.rows a.rows =
              omega arith in
              let multiple : SameMod p (y a.rows * c) 0 =
              same_mul p (y a.rows) (y a.rows) c (new_t.entry a.rows a.rows) refl
              (sym (ap (λ z. z % p) own_factor ∙ mod-mod c p))
              ∙ ap (λ z. z % p) (sym none) ∙ said in
              let turned : y a.rows * 1 ≡ y a.rows = omega arith in
              let again : y a.rows * (get_or w q 0 * c) ≡ get_or w q 0 * (y a.rows * c) = omega arith in
              ap (λ k. y k % p) last ∙ ap (λ z. z % p) (sym turned)
              ∙ same_mul p (y a.rows) (y a.rows) 1 (get_or w q 0 * c) refl (sym more.inverse)
              ∙ ap (λ z. z % p) again ∙ mul_zero p (get_or w q 0) (y a.rows * c) multiple
          | inr other ↦ before k (omega arith)
        ]

    leads_more : HasLeading new_a places
    leads_more = record {
      one_for_each = place_count ∙ sym more.row.rows;
      below = λ k l. elim (cases_eq k a.rows) [
        | inl last ↦ rw (ap (λ i. get_or places i 0) last ∙ place_last, more.row.cols) (rw (← wide) first.within)
        | inr other ↦
            let early : k < a.rows = omega (arith, place_count) in
            rw (place_before k early, more.row.cols) (h.leading.below k (rw h.leading.one_for_each early))
      ];
      one = λ k l. elim (cases_eq k a.rows) [
        | inl last ↦
            let turned : more.factor * get_or w q 0 ≡ get_or w q 0 * more.factor = omega arith in
            ap₂ new_a.entry last (ap (λ i. get_or places i 0) last ∙ place_last)
            ∙ row_made q (rw (← wide) first.within) ∙ ap (λ z. z % p) turned ∙ more.inverse ∙ mod-eq_of_lt two
        | inr other ↦
            let early : k < a.rows = omega (arith, place_count) in
            let inside : k < length ps = rw h.leading.one_for_each early in
            ap (new_a.entry k) (place_before k early) ∙ more.row.others k (get_or ps k 0) early (h.leading.below k
            inside) ∙ h.leading.one k inside
      ];
      zero_before = λ k j l b. elim (cases_eq k a.rows) [
        | inl last ↦
            let before : j < q = subst (λ z. j < z) (ap (λ i. get_or places i 0) last ∙ place_last) b in
            let within : q < a.cols = rw (← wide) first.within in
            row_zero k j last (omega arith) (first.zero_before j before)
        | inr other ↦
            let early : k < a.rows = omega (arith, place_count) in
            let inside : k < length ps = rw h.leading.one_for_each early in
            let before : j < get_or ps k 0 = subst (λ z. j < z) (place_before k early) b in
            let below : get_or ps k 0 < a.cols = h.leading.below k inside in
            more.row.others k j early (omega arith) ∙ h.leading.zero_before k j inside before
      ];
      zero_earlier = λ k l m b. elim (cases_eq k a.rows) [
        | inl last ↦
            let early : l < a.rows = omega arith in
            let inside : l < length ps = rw h.leading.one_for_each early in
            ap (new_a.entry k) (place_before l early)
            ∙ row_zero k (get_or ps l 0) last (h.leading.below l inside) (left.zero l inside)
        | inr other ↦
            let early : k < a.rows = omega (arith, place_count) in
            let inside : k < length ps = rw h.leading.one_for_each early in
            let here : l < length ps = omega arith in
            ap (new_a.entry k) (place_before l (omega arith))
            ∙ more.row.others k (get_or ps l 0) early (h.leading.below l here) ∙ h.leading.zero_earlier k l inside b
      ];
    }
      where
        row_zero : (k j : ℕ) → k ≡ a.rows → j < a.cols → get_or w j 0 ≡ 0 → new_a.entry k j ≡ 0
        row_zero k j last inside none =
            let whole : more.factor * get_or w j 0 ≡ 0 = ap (λ z. more.factor * z) none ∙ omega arith in
            ap (λ i. new_a.entry i j) last ∙ row_made j inside ∙ ap (λ z. z % p) whole ∙ zero-mod p

    -- the row that came is what is left of it, and what was taken
    row_written : (j : ℕ) → j < a.cols → SameMod p (v j) (combination (extended minus a.rows (get_or w q 0))
        new_a.entry new_a.rows j)
    row_written j b =
        let c : ℕ = more.factor in
        let x : ℕ = get_or w q 0 in
        let again : x * (c * get_or w j 0) ≡ (x * c) * get_or w j 0 = omega arith in
        let one : 1 * get_or w j 0 ≡ get_or w j 0 = omega arith in
        let back : SameMod p (x * new_a.entry a.rows j) (get_or w j 0) =
        same_mul p x x (new_a.entry a.rows j) (c * get_or w j 0) refl (ap (λ z. z % p) (row_made j b) ∙ mod-mod (c *
        get_or w j 0) p)
        ∙ ap (λ z. z % p) again
        ∙ same_mul p (x * c) 1 (get_or w j 0) (get_or w j 0) more.inverse refl ∙ ap (λ z. z % p) one in
        let taken : combination minus new_a.entry a.rows j ≡ combination minus a.entry a.rows j =
        sum_below_same (λ k. minus k * new_a.entry k j) (λ k. minus k * a.entry k j) a.rows (λ k l. ap (λ z. minus k *
        z) (more.row.others k j l b)) in
        let turned : get_or w j 0 + combination minus a.entry a.rows j ≡ combination minus a.entry a.rows j + get_or w
        j 0 = omega arith in
        remainder_sum j b ∙ ap (λ z. z % p) turned
        ∙ sym (same_add p (combination minus new_a.entry a.rows j) (combination minus a.entry a.rows j) (x *
        new_a.entry a.rows j) (get_or w j 0) (ap (λ z. z % p) taken) back)
        ∙ ap (λ z. z % p) (sym (ap (λ n. combination (extended minus a.rows x) new_a.entry n j) more.row.rows
        ∙ combination_more minus a.rows x new_a.entry j))

    -- the row is chosen
    pub grown_more : IsGrown p new new_a new_t places chosen_more (count + 1)
    grown_more = record {
      as_many = new_count;
      choice = record {
        rise = λ k l. elim (cases_eq (k + 1) (length chosen)) [
          | inl last ↦
              let early : k < length chosen = omega arith in
              let below : get_or chosen k 0 < old.rows = h.choice.below k 0 early in
              rw (get_or_append_left chosen (count ∷ []) 0 k early, get_or_push chosen count 0 (k + 1) (sym last))
              (omega (arith, h.as_many))
          | inr other ↦
              let early : k + 1 < length chosen = omega (arith, chosen_count, height) in
              rw (
                get_or_append_left chosen (count ∷ []) 0 k (omega arith),
                get_or_append_left chosen (count ∷ []) 0
                    (k + 1) early,
              ) (h.choice.rise k early)
        ];
        below = All-push (λ i. i < new.rows) chosen count (λ k d l. let below = h.choice.below k d l in omega (
          arith,
          pushed.rows,
        )) (omega (arith, pushed.rows, h.as_many));
      };
      leading = leads_more;
      trace = record {
        rows = more.row.rows ∙ sym chosen_count;
        cols = more.row.cols ∙ h.trace.cols ∙ sym pushed.cols;
        trace_rows = more.trace_row.rows ∙ ap (λ n. n + 1) trace_height ∙ sym chosen_count;
        trace_cols = new_width ∙ sym chosen_count;
        gives = λ i l j b. trace_gives i j (rw (← chosen_count) l) (rw (← pushed.cols) b);
        faithful = λ y kernel k l. trace_faithful y kernel k (rw (← chosen_count) l);
      };
      numbers = more.numbers;
      trace_numbers = more.trace_numbers;
      written = λ i l. elim (cases_eq i old.rows) [
        | inl last ↦ record {
          factors = extended minus a.rows (get_or w q 0);
          sums = λ j b.
              let inside : j < a.cols = rw (← more.row.cols) b in
              ap (λ k. new.entry k j % p) last ∙ ap (λ z. z % p) (pushed.pushed j (old_column j inside))
              ∙ row_written j inside;
        }
        | inr other ↦ combination_kept more.row (old_written i (omega (arith, pushed.rows)))
      ];
    }

-- rows with a row more
abbrev pub pushed_rows : Matrix → (ℕ → ℕ) → Matrix
pushed_rows a v = record { rows = a.rows + 1; cols = a.cols; entry = λ i. cond (eqb i a.rows) v (a.entry i) }

pub pushed_made : (a : Matrix) (v : ℕ → ℕ) → IsRowPushed a (pushed_rows a v) v
pushed_made a v = record {
  rows = refl;
  cols = refl;
  pushed = λ j l. ap (λ x. x j) (cond-true {A = ℕ → ℕ} (eqb a.rows a.rows) v (a.entry a.rows) (eq-eqb a.rows a.rows
      refl));
  others = λ i j l b. ap (λ x. x j) (cond-false {A = ℕ → ℕ} (eqb i a.rows) v (a.entry i) (ne_eqb i a.rows (λ e. absurd
      (omega arith))));
}

-- the basis of no rows
pub grown_none : {p count : ℕ} {old a t : Matrix} → old.rows ≡ 0 → count ≡ 0 → a.rows ≡ 0 → t.rows ≡ 0 →
    t.cols ≡ 0 → a.cols ≡ old.cols → IsGrown p old a t [] [] count
grown_none {p} {count} {old} {a} {t} none first rows trace_rows trace_cols cols = record {
  as_many = none ∙ sym first;
  choice = record { rise = λ k l. absurd (omega arith); below = λ k d l. absurd (omega arith) };
  leading = record {
    one_for_each = sym rows;
    below = λ k l. absurd (omega arith);
    one = λ k l. absurd (omega arith);
    zero_before = λ k j l b. absurd (omega arith);
    zero_earlier = λ k l m b. absurd (omega arith);
  };
  trace = record {
    rows = rows;
    cols = cols;
    trace_rows = trace_rows;
    trace_cols = trace_cols;
    gives = λ i l j b. absurd (omega arith);
    faithful = λ y kernel k l. absurd (omega arith);
  };
  numbers = λ i j l b. absurd (omega (arith, rows));
  trace_numbers = λ i j l b. absurd (omega (arith, trace_rows));
  written = λ i l. absurd (omega (arith, none));
}

-- combinations of rows, added up
combination_sum : {p : ℕ} {a : Matrix} {v w : ℕ → ℕ} (c : ℕ) → IsRowCombination p a v → IsRowCombination p a w →
    IsRowCombination p a (λ j. v j + c * w j)
combination_sum {p} {a} {v} {w} c first second = record {
  factors = λ k. first.factors k + c * second.factors k;
  sums = λ j l.
      let split : combination (λ k. first.factors k + c * second.factors k) a.entry a.rows j ≡ combination first.factors
      a.entry a.rows j + c * combination second.factors a.entry a.rows j =
      sum_below_same (λ k. (first.factors k + c * second.factors k) * a.entry k j) (λ k. first.factors k * a.entry k j +
      (c * second.factors k) * a.entry k j) a.rows (λ k b. omega arith)
      ∙ sum_below-add (λ k. first.factors k * a.entry k j) (λ k. (c * second.factors k) * a.entry k j) a.rows
      ∙ ap (λ z. combination first.factors a.entry a.rows j + z)
      (combination_scaled c second.factors a.entry a.rows j) in
      same_add p (v j) (combination first.factors a.entry a.rows j) (c * w j) (c * combination second.factors a.entry
      a.rows j) (first.sums j l) (same_mul p c c (w j) (combination second.factors a.entry a.rows j) refl (second.sums j
      l))
      ∙ ap (λ z. z % p) (sym split);
}

-- a combination of combinations is one
combination_through : {p : ℕ} {a : Matrix} (c : ℕ → ℕ) (vs : ℕ → ℕ → ℕ) (n : ℕ) →
    ((i : ℕ) → i < n → IsRowCombination p a (vs i)) → IsRowCombination p a (combination c vs n)
combination_through {p} {a} c vs zero each = record {
  factors = λ k. 0;
  sums = λ j l.
      let none : combination (λ k. 0) a.entry a.rows j ≡ 0 =
      sum_below_same (λ k. 0 * a.entry k j) (λ k. 0) a.rows (λ k m. omega arith) ∙ sum_below-zeros a.rows in
      ap (λ z. z % p) (sum_below-zero (λ i. c i * vs i j) ∙ sym none);
}
combination_through {p} {a} c vs (suc n) each =
    combination_same (λ j l. sum_below-suc (λ i. c i * vs i j) n)
    (combination_sum (c n) (combination_through c vs n (λ i l. each i (omega arith))) (each n (omega arith)))

-- a combination of leading rows that is 0 at all their places is 0
module _ (p : ℕ) {a : Matrix} {ps : List ℕ} (leading : HasLeading a ps) (x : ℕ → ℕ)
    (zeros : (k : ℕ) → k < length ps → SameMod p (combination x a.entry a.rows (get_or ps k 0)) 0) where
  factors_zero : (n : ℕ) → n ≤ length ps → (k : ℕ) → k < n → SameMod p (x k) 0
  factors_zero zero l k b = absurd (omega arith)
  factors_zero (suc n) l k b =
      let before : (k : ℕ) → k < n → SameMod p (x k) 0 = factors_zero n (omega arith) in
      elim (cases_eq k n) [
        | inl last ↦
            let one : x n * a.entry n (get_or ps n 0) ≡ x n = ap (λ z. x n * z) (leading.one n l) ∙ omega arith in
            ap (λ i. x i % p) last ∙ ap (λ z. z % p) (sym one)
            ∙ sym (sum_only_mod p (λ i. x i * a.entry i (get_or ps n 0)) a.rows n (rw (← leading.one_for_each) l)
            (λ i m other. elim (cases_lt i n) [
              | inl early ↦ zero_mul p (x i) (a.entry i (get_or ps n 0)) (before i early)
              | inr late ↦ mul_zero p (x i) (a.entry i (get_or ps n 0)) (ap (λ z. z % p) (leading.zero_earlier i n (rw
                  leading.one_for_each m) (omega arith)))
            ]))
            ∙ zeros n l
        | inr other ↦ before k (omega arith)
      ]

  combination_zero : (j : ℕ) → SameMod p (combination x a.entry a.rows j) 0
  combination_zero j = sum_zero_mod p (λ k. x k * a.entry k j) a.rows (λ k l. zero_mul p (x k) (a.entry k j)
      (factors_zero (length ps) (omega arith) k (rw leading.one_for_each l)))

-- what is left of a combination of the chosen rows is 0
module _ {p : ℕ} {old a t : Matrix} {ps chosen w u : List ℕ} {count : ℕ} {v : ℕ → ℕ}
    (h : IsGrown p old a t ps chosen count) (left : IsRemainder p (length ps) a t ps v w u) where
  left_combination : IsRowCombination p (chosen_rows chosen old) v → IsRowCombination p a (λ j. get_or w j 0)
  left_combination made =
      let through : IsRowCombination p a (combination made.factors (chosen_rows chosen old).entry (length chosen)) =
      combination_through made.factors (chosen_rows chosen old).entry (length chosen)
      (λ i l. h.written (get_or chosen i 0) (h.choice.below i 0 l)) in
      let of_v : IsRowCombination p a v = record {
        factors = through.factors;
        sums = λ j l. made.sums j (rw (← h.trace.cols) l) ∙ through.sums j l;
      } in
      let taken : IsRowCombination p a (combination left.factors a.entry a.rows) = record {
        factors = left.factors;
        sums = λ j l. refl;
      } in
      let both : IsRowCombination p a (λ j. v j + 1 * combination left.factors a.entry a.rows j) = combination_sum 1
      of_v taken in
      record {
        factors = both.factors;
        sums = λ j l.
            let one : v j + combination left.factors a.entry (length ps) j ≡ v j + 1 * combination left.factors a.entry
            a.rows j = ap (λ n. v j + combination left.factors a.entry n j) h.leading.one_for_each ∙ omega arith in
            left.left j l ∙ ap (λ z. z % p) one ∙ both.sums j l;
      }

  pub nothing_left : IsRowCombination p (chosen_rows chosen old) v → (j : ℕ) → j < a.cols → get_or w j 0 ≡ 0
  nothing_left made j l =
      let is : IsRowCombination p a (λ j. get_or w j 0) = left_combination made in
      let zeros : (k : ℕ) → k < length ps → SameMod p (combination is.factors a.entry a.rows (get_or ps k 0)) 0 =
      λ k m. sym (is.sums (get_or ps k 0) (h.leading.below k m)) ∙ ap (λ z. z % p) (left.zero k m) in
      let none : SameMod p (get_or w j 0) 0 = is.sums j l ∙ combination_zero p h.leading is.factors zeros j in
      let positive : 0 < p = let below = left.below j l in omega arith in
      same_below p (get_or w j 0) 0 (left.below j l) positive none

-- a list with a member more is another
pub longer : (xs : List ℕ) (x : ℕ) → xs ++ x ∷ [] ≡ xs → ⊥
longer xs x same =
    let count : length (xs ++ x ∷ []) ≡ length xs + 1 = simp length-append refl in
    let equal : length (xs ++ x ∷ []) ≡ length xs = ap length same in
    absurd (omega (arith, count))

-- numbers times the minus of one, as a vector
pub negated_made : {p n minus one : ℕ} {numbers made : List ℕ} {v : List Entry} → 2 ≤ p → one ≡ 1 → minus < p →
    (one + minus) % p ≡ 0 → IsMultiplied p minus numbers made → n ≤ length numbers → IsSparse v → FitsBelow v n →
    ((j : ℕ) → j < n → number_at v j ≡ get_or made j 0) → IsNegated p n numbers v
negated_made {p} {n} {minus} {one} {numbers} {made} {v} two is_one below none multiplied room sparse fits same =
    let largest : SameMod p minus (p - 1) =
    let whole : minus + 1 ≡ one + minus = omega (arith, is_one) in
    let past : (p - 1) + 1 ≡ 0 + p * 1 = omega arith in
    same_cancel p minus (p - 1) 1
    (ap (λ z. z % p) whole ∙ none ∙ sym (zero-mod p) ∙ sym (ap (λ z. z % p) past ∙ same_past p 0 1)) in
    record {
      fits = fits;
      below = values_from_numbers p n v sparse fits (λ j l. rw (same j l, multiplied.multiplied j (omega arith)) (mod-lt
          (minus * get_or numbers j 0) (omega arith)));
      negated = λ j l.
          ap (λ z. z % p) (same j l ∙ multiplied.multiplied j (omega arith)) ∙ mod-mod (minus * get_or numbers j 0) p
          ∙ same_mul p minus (p - 1) (get_or numbers j 0) (get_or numbers j 0) largest refl;
    }

-- the negated factors write the row
pub writes_made : {p : ℕ} {old : Matrix} {chosen u : List ℕ} {v : ℕ → ℕ} {x : List Entry} →
    SameVector p old.cols v (combination (λ l. (p - 1) * get_or u l 0) (chosen_rows chosen old).entry (length chosen)) →
    IsNegated p (length chosen) u x → WritesRow p old chosen v x
writes_made {p} {old} {chosen} {u} {v} {x} written negated =
    let C = chosen_rows chosen old in
    record {
      fits = negated.fits;
      below = negated.below;
      sums = λ j l.
          written j l
          ∙ sym (sum_same_mod p (λ k. number_at x k * C.entry k j) (λ k. ((p - 1) * get_or u k 0) * C.entry k j) (length
          chosen)
          (λ k m. same_mul p (number_at x k) ((p - 1) * get_or u k 0) (C.entry k j) (C.entry k j) (negated.negated k m)
          refl));
    }
