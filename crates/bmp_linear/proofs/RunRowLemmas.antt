-- Rows that stand one after another in one run of numbers.
use Rattle.std.proofs.Common.{◌≡◌, ◌≢◌, ℕ, ◌+◌, ◌-◌, ◌*◌, ◌<◌, ◌≤◌, ◌%◌, List, length, get_or, set, length-set, get_or-set_same, get_or-set_other, subst, refl, ap, sym, ◌∙◌, inl, inr, arith}
use Rattle.std.proofs.lemmas.Bool.{cases_eq, cases_lt}
use Rattle.bmp_math.specs.Matrices.{Matrix}
use Rattle.bmp_linear.specs.RowTables.{NumberTable, matrix_of_numbers, rows_of}
use Rattle.bmp_linear.specs.RowChanges.{IsRowAdded, IsRowMultiplied, AreRowsExchanged, AreMultiplesAdded}
use Rattle.bmp_linear.specs.Runs.{IsOutside, AreApart, HoldsRun, IsRunAdded, IsRunMultiplied, AreRunsExchanged}

-- one number more
pub multiplied_more : (p c start n : ℕ) (old new : List ℕ) (number value total : ℕ) → start + n < length new →
    IsRunMultiplied p c start n old new → number ≡ get_or new (start + n) 0 → value ≡ (c * number) % p → total ≡ value →
    IsRunMultiplied p c start (n + 1) old (set new (start + n) total)
multiplied_more p c start n old new number value total within so_far is_number is_value is_total = record {
  length_is = length-set new (start + n) total ∙ so_far.length_is;
  multiplied = λ j l. elim (cases_eq j n) [
    | inl here ↦
        ap (λ k. get_or (set new (start + n) total) (start + k) 0) here ∙ get_or-set_same new (start + n) total 0 within
        ∙ is_total ∙ is_value
        ∙ ap (λ x. (c * x) % p) (is_number ∙ so_far.others (start + n) (inr (omega arith)))
        ∙ ap (λ k. (c * get_or old (start + k) 0) % p) (sym here)
    | inr other ↦ let apart : start + j ≢ start + n = λ e. other (omega arith) in
        get_or-set_other new (start + n) (start + j) total 0 apart ∙ so_far.multiplied j (omega arith)
  ];
  others = λ k out.
      let apart : k ≢ start + n = elim out [ inl before ↦ λ e. omega arith | inr past ↦ λ e. omega arith ] in
      let still_out : IsOutside start n k = elim out [ inl before ↦ inl before | inr past ↦ inr (omega arith) ] in
      get_or-set_other new (start + n) k total 0 apart ∙ so_far.others k still_out;
}

-- what was not reached yet is below p
pub still_below : (p c start n len : ℕ) (old new : List ℕ) (number : ℕ) → n < len → HoldsRun p start len old →
    IsRunMultiplied p c start n old new → number ≡ get_or new (start + n) 0 → number < p
still_below p c start n len old new number l holds so_far is =
    let below : get_or old (start + n) 0 < p = holds.below n l in
    let same : get_or new (start + n) 0 ≡ get_or old (start + n) 0 = so_far.others (start + n) (inr (omega arith)) in
    omega arith

some_rows_on : (i k cols : ℕ) → i * cols + cols ≤ (i + 1 + k) * cols
some_rows_on i k cols = omega arith

-- a row ends where a later one begins, or before
pub row_ends : (i j cols : ℕ) → i < j → i * cols + cols ≤ j * cols
row_ends i j cols l = let next : i + 1 + (j - (i + 1)) ≡ j = omega arith in
    subst (λ m. i * cols + cols ≤ m * cols) next (some_rows_on i (j - (i + 1)) cols)

pub rows_apart : (i j cols : ℕ) → i ≢ j → AreApart (i * cols) (j * cols) cols
rows_apart i j cols other =
    elim (cases_lt i j) [
      | inl before ↦ inl (row_ends i j cols before)
      | inr later ↦ inr (row_ends j i cols (omega arith))
    ]

-- the numbers of another row are outside
pub outside : (i r j cols : ℕ) → j < cols → i ≢ r → IsOutside (r * cols) cols (i * cols + j)
outside i r j cols k other =
    elim (cases_lt i r) [
      | inl earlier ↦ let ends : i * cols + cols ≤ r * cols = row_ends i r cols earlier in inl (omega arith)
      | inr later ↦ let ends : r * cols + cols ≤ i * cols = row_ends r i cols (omega arith) in inr (omega arith)
    ]

-- a table with the numbers `old`, and the one with the numbers `new`
module _ (t : NumberTable) (rows cols : ℕ) (numbers old new kept : List ℕ)
    (seen : record { rows = rows; cols = cols; numbers = numbers } ≡ t) (same : old ≡ numbers) (is_kept : kept ≡ new)
  where
    -- what holds of the two lists holds of the two tables
    of_tables : (P : Matrix → Matrix → Type 0) →
        P (matrix_of_numbers (record { rows = rows; cols = cols; numbers = old }))
        (matrix_of_numbers (record { rows = rows; cols = cols; numbers = new })) →
        P (matrix_of_numbers t) (matrix_of_numbers (record { rows = rows; cols = cols; numbers = kept }))
    of_tables P h =
        let before : record { rows = rows; cols = cols; numbers = old } ≡ t =
        ap (λ list. record { rows = rows; cols = cols; numbers = list }) same ∙ seen in
        subst (λ list. P (matrix_of_numbers t)
        (matrix_of_numbers (record { rows = rows; cols = cols; numbers = list })))
        (sym is_kept)
        (subst (λ u. P (matrix_of_numbers u) (matrix_of_numbers (record { rows = rows; cols = cols; numbers = new })))
        before h)

    pub run_added : (p c into from : ℕ) → IsRunAdded p c (into * cols) (from * cols) cols old new →
        IsRowAdded p (matrix_of_numbers t) (matrix_of_numbers (record { rows = rows; cols = cols; numbers = kept }))
        into
        from c
    run_added p c into from run =
        of_tables (λ a b. IsRowAdded p a b into from c) (record {
          rows = refl;
          cols = refl;
          added = run.added;
          others = λ i j l k other. run.others (i * cols + j) (outside i into j cols k other);
        })

    pub run_multiplied : (p c row : ℕ) → IsRunMultiplied p c (row * cols) cols old new →
        IsRowMultiplied p (matrix_of_numbers t)
        (matrix_of_numbers (record { rows = rows; cols = cols; numbers = kept }))
        row c
    run_multiplied p c row run =
        of_tables (λ a b. IsRowMultiplied p a b row c) (record {
          rows = refl;
          cols = refl;
          multiplied = run.multiplied;
          others = λ i j l k other. run.others (i * cols + j) (outside i row j cols k other);
        })

    pub runs_exchanged : (first second : ℕ) → AreRunsExchanged (first * cols) (second * cols) cols old new →
        AreRowsExchanged (matrix_of_numbers t) (matrix_of_numbers (record { rows = rows; cols = cols; numbers = kept }))
        first second
    runs_exchanged first second run =
        of_tables (λ a b. AreRowsExchanged a b first second) (record {
          rows = refl;
          cols = refl;
          at_first = run.at_first;
          at_second = run.at_second;
          others = λ i j l k other_first other_second. run.others (i * cols + j) (outside i first j cols k other_first)
              (outside i second j cols k other_second);
        })

    pub multiples_added : (p n from : ℕ) (c : ℕ → ℕ) → n ≡ rows →
        AreMultiplesAdded p (rows_of n cols old) (rows_of n cols new) from c →
        AreMultiplesAdded p (matrix_of_numbers t)
        (matrix_of_numbers (record { rows = rows; cols = cols; numbers = kept })) from c
    multiples_added p n from c as_many h =
        of_tables (λ a b. AreMultiplesAdded p a b from c)
        (subst (λ m. AreMultiplesAdded p (rows_of m cols old) (rows_of m cols new) from c) as_many h)
