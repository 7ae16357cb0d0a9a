-- A row in two parts: its numbers, and what it says of a vector, part by part.
use Rattle.std.proofs.Common.{◌≡◌, ℕ, ◌+◌, ◌-◌, ◌*◌, ◌%◌, ◌<◌, ◌≤◌, List, length, get_or, take, drop, cond, leb, sym, ap, ap₂, subst, ◌∙◌, inl, inr, arith}
use Rattle.std.specs.List.{sum_by}
use Rattle.std.proofs.Math.Nat.{add-mod, mod-eq_of_lt}
use Rattle.std.proofs.lemmas.Bool.{cases_lt, cond-true, cond-false, le-leb, lt-leb}
use Rattle.bmp_math.specs.Sums.{sum_below}
use Rattle.bmp_math.specs.Matrices.{Matrix, NumbersBelow, image}
use Rattle.bmp_math.proofs.SumLemmas.{sum_below_same, sum_below-zeros, sum_below_joined}
use Rattle.bmp_linear.specs.declared.vector.Entry.{Entry}
use Rattle.bmp_linear.specs.SparseVectors.{IsSparse, FitsBelow, ValuesBelow, IsSpread, number_at}
use Rattle.bmp_linear.specs.RowChanges.{HoldsNumbers, IsRowAddedTo, AddsEntries}
use Rattle.bmp_linear.proofs.SparseLemmas.{number_at-own, number_at-below, number_at-past, sum_by-number_at}
use Rattle.bmp_linear.proofs.EntryTimesLemmas.{number_at-times, times_fits}
use Rattle.bmp_linear.proofs.MergeLemmas.{fits_above}
use Rattle.bmp_sections.specs.RowParts.{negated, part_number, IsRowOfParts}
use Rattle.bmp_sections.proofs.NegatedLemmas.{negated_sparse}
use Rattle.bmp_sections.proofs.SliceLemmas.{part_before, part_inside, part_after, part_read, part_length}
use borrow.Rule.Slice.PartMut.{put_mid}

module _ (p : ℕ) (lower upper : List Entry) (low high : ℕ) where
  -- the numbers of a row in two parts, by where the column is
  pub part_last : (k : ℕ) → high ≤ k → part_number p lower upper low high k ≡ ((p - 1) * number_at upper (k - high)) % p
  part_last k from =
      cond-true {A = ℕ} (leb high k) (((p - 1) * number_at upper (k - high)) % p)
      (cond (leb low k) (number_at lower (k - low)) 0) (le-leb high k from)

  part_rest : (k : ℕ) → k < high → part_number p lower upper low high k ≡ cond (leb low k) (number_at lower (k - low)) 0
  part_rest k before =
      cond-false {A = ℕ} (leb high k) (((p - 1) * number_at upper (k - high)) % p)
      (cond (leb low k) (number_at lower (k - low)) 0) (lt-leb high k before)

  pub part_first : (k : ℕ) → low ≤ k → k < high → part_number p lower upper low high k ≡ number_at lower (k - low)
  part_first k from before =
      part_rest k before ∙ cond-true {A = ℕ} (leb low k) (number_at lower (k - low)) 0 (le-leb low k from)

  pub part_none : (k : ℕ) → k < low → k < high → part_number p lower upper low high k ≡ 0
  part_none k outside before =
      part_rest k before ∙ cond-false {A = ℕ} (leb low k) (number_at lower (k - low)) 0 (lt-leb low k outside)

module _ (p : ℕ) (a : Matrix) (i : ℕ) (lower upper : List Entry) (low high : ℕ)
    (row : IsRowOfParts p a i lower upper low high) where
  -- minus the upper part, as entries
  abbrev taken : List Entry
  taken = negated p upper

  pub entry_before : (k : ℕ) → k < low → a.entry i k ≡ 0
  entry_before k outside =
      row.same k (omega (arith, row.in_order, row.within))
      ∙ part_none p lower upper low high k outside (omega (arith, row.in_order))

  pub entry_first : (j : ℕ) → j < high - low → a.entry i (low + j) ≡ number_at lower j
  entry_first j inside =
      let back : (low + j) - low ≡ j = omega arith in
      row.same (low + j) (omega (arith, row.in_order, row.within))
      ∙ part_first p lower upper low high (low + j) (omega arith) (omega (arith, row.in_order))
      ∙ ap (number_at lower) back

  pub entry_last : (j : ℕ) → j < a.cols - high → a.entry i (high + j) ≡ number_at (negated p upper) j
  entry_last j inside =
      let back : (high + j) - high ≡ j = omega arith in
      row.same (high + j) (omega (arith, row.within))
      ∙ part_last p lower upper low high (high + j) (omega arith)
      ∙ ap (λ k. ((p - 1) * number_at upper k) % p) back
      ∙ sym (number_at-times p (p - 1) upper j)

  pub taken_fits : FitsBelow (negated p upper) (a.cols - high)
  taken_fits = times_fits p (p - 1) (a.cols - high) upper row.upper_fits

  taken_sparse : IsSparse (negated p upper)
  taken_sparse = negated_sparse p upper row.upper_sparse row.upper_below row.two

  -- where the numbers of the matrix are below n, so are those of the parts
  module _ (n : ℕ) (below : NumbersBelow n a) (is_row : i < a.rows) where
    pub lower_values : ValuesBelow lower n
    lower_values k d l =
        let place : (get_or lower k d).place < high - low = row.lower_fits k d l in
        subst (λ z. z < n) (entry_first (get_or lower k d).place place
        ∙ number_at-own lower k d row.lower_sparse.rising l)
        (below i (low + (get_or lower k d).place) is_row (omega (arith, row.in_order, row.within)))

    pub taken_values : ValuesBelow (negated p upper) n
    taken_values k d l =
        let place : (get_or (negated p upper) k d).place < a.cols - high = taken_fits k d l in
        subst (λ z. z < n) (entry_last (get_or (negated p upper) k d).place place
        ∙ number_at-own (negated p upper) k d taken_sparse.rising l)
        (below i (high + (get_or (negated p upper) k d).place) is_row (omega (arith, row.within)))

  -- a sum over all columns, part by part
  sum_of_parts :
      (f : ℕ → ℕ) → sum_below (λ k. f k * a.entry i k) a.cols
      ≡ sum_below (λ j. number_at lower j * f (low + j)) (high - low) + sum_below
      (λ j. number_at (negated p upper) j * f (high + j)) (a.cols - high)
  sum_of_parts f =
      let term : ℕ → ℕ = λ k. f k * a.entry i k in
      let all : a.cols ≡ low + ((high - low) + (a.cols - high)) = omega (arith, row.in_order, row.within) in
      let none : sum_below (λ k. f k * a.entry i k) low ≡ 0 =
      sum_below_same (λ k. f k * a.entry i k) (λ k. 0) low (λ k outside. ap (λ z. f k * z) (entry_before k outside)
      ∙ times_none (f k)) ∙ sum_below-zeros low in
      let first : sum_below (λ j. f (low + j) * a.entry i (low + j)) (high - low)
      ≡ sum_below (λ j. number_at lower j * f (low + j)) (high - low) =
      sum_below_same (λ j. f (low + j) * a.entry i (low + j)) (λ j. number_at lower j * f (low + j)) (high - low)
      (λ j inside. ap (λ z. f (low + j) * z) (entry_first j inside)
      ∙ products_turn (f (low + j)) (number_at lower j)) in
      let last : sum_below (λ j. f (low + ((high - low) + j)) * a.entry i (low + ((high - low) + j))) (a.cols - high)
      ≡ sum_below (λ j. number_at (negated p upper) j * f (high + j)) (a.cols - high) =
      sum_below_same (λ j. f (low + ((high - low) + j)) * a.entry i (low + ((high - low) + j)))
      (λ j. number_at (negated p upper) j * f (high + j)) (a.cols - high)
      (λ j inside.
      let there : low + ((high - low) + j) ≡ high + j = omega (arith, row.in_order) in
      ap (λ k. f k * a.entry i k) there ∙ ap (λ z. f (high + j) * z) (entry_last j inside)
      ∙ products_turn (f (high + j)) (number_at (negated p upper) j)) in
      ap (sum_below term) all ∙ sum_below_joined term low ((high - low) + (a.cols - high))
      ∙ ap₂ (λ x y. x + y) none (sum_below_joined (λ j. term (low + j)) (high - low) (a.cols - high)
      ∙ ap₂ (λ x y. x + y) first last)
      ∙ zero_more (sum_below (λ j. number_at lower j * f (low + j)) (high - low) + sum_below
      (λ j. number_at (negated p upper) j * f (high + j)) (a.cols - high))
    where
      times_none : (x : ℕ) → x * 0 ≡ 0
      times_none x = omega arith

      products_turn : (x y : ℕ) → x * y ≡ y * x
      products_turn x y = omega arith

      zero_more : (x : ℕ) → 0 + x ≡ x
      zero_more x = omega arith

  -- what the row says of a vector that is spread, from the parts of the list
  module _ (v : List Entry) (spread : List ℕ) (is_spread : IsSpread v a.cols spread) where
    abbrev first : List ℕ
    first = take (high - low) (drop low spread)

    abbrev last : List ℕ
    last = take (length spread - high) (drop high spread)

    first_number : (j : ℕ) → j < high - low → get_or (take (high - low) (drop low spread)) j 0 ≡ number_at v (low + j)
    first_number j inside = part_read low (high - low) spread j inside
        ∙ is_spread.same (low + j) (omega (arith, row.in_order, row.within))

    last_number : (j : ℕ) → j < a.cols - high → get_or (take (length spread - high) (drop high spread)) j 0
        ≡ number_at v (high + j)
    last_number j inside =
        part_read high (length spread - high) spread j (omega (arith, is_spread.room))
        ∙ is_spread.same (high + j) (omega (arith, row.within))

    pub first_below : (n : ℕ) → 0 < n → ValuesBelow v n → (k : ℕ) (d : Entry) → k < length lower →
        get_or (take (high - low) (drop low spread)) (get_or lower k d).place 0 < n
    first_below n some values k d l =
        subst (λ z. z < n) (sym (first_number (get_or lower k d).place (row.lower_fits k d l)))
        (number_at-below v n (low + (get_or lower k d).place) some values)

    pub last_below : (n : ℕ) → 0 < n → ValuesBelow v n → (k : ℕ) (d : Entry) → k < length upper →
        get_or (take (length spread - high) (drop high spread)) (get_or upper k d).place 0 < n
    last_below n some values k d l =
        subst (λ z. z < n) (sym (last_number (get_or upper k d).place (row.upper_fits k d l)))
        (number_at-below v n (high + (get_or upper k d).place) some values)

    pub value_of_parts :
        (n x y value : ℕ) → x ≡ sum_by (λ e. e.value * get_or (take (high - low) (drop low spread)) e.place 0) lower
        % n →
        y ≡ sum_by (λ e. e.value * get_or (take (length spread - high) (drop high spread)) e.place 0) (negated p upper)
        % n → value ≡ (x + y) % n →
        value ≡ image a (number_at v) i % n
    value_of_parts n x y value is_x is_y is_value =
        let first_sum : sum_by (λ e. e.value * get_or (take (high - low) (drop low spread)) e.place 0) lower
        ≡ sum_below (λ j. number_at lower j * number_at v (low + j)) (high - low) =
        sum_by-number_at lower (high - low) (λ j. get_or first j 0) row.lower_sparse.rising row.lower_fits
        ∙ sum_below_same (λ j. number_at lower j * get_or first j 0) (λ j. number_at lower j * number_at v (low + j))
        (high - low) (λ j inside. ap (λ z. number_at lower j * z) (first_number j inside)) in
        let last_sum : sum_by (λ e. e.value * get_or (take (length spread - high) (drop high spread)) e.place 0)
        (negated p upper) ≡ sum_below (λ j. number_at (negated p upper) j * number_at v (high + j))
        (a.cols - high) =
        sum_by-number_at (negated p upper) (a.cols - high) (λ j. get_or last j 0) taken_sparse.rising taken_fits
        ∙ sum_below_same (λ j. number_at (negated p upper) j * get_or last j 0)
        (λ j. number_at (negated p upper) j * number_at v (high + j)) (a.cols - high)
        (λ j inside. ap (λ z. number_at (negated p upper) j * z) (last_number j inside)) in
        is_value
        ∙ ap₂ (λ s t. (s + t) % n) (is_x ∙ ap (λ z. z % n) first_sum) (is_y ∙ ap (λ z. z % n) last_sum)
        ∙ sym (add-mod (sum_below (λ j. number_at lower j * number_at v (low + j)) (high - low))
        (sum_below (λ j. number_at (negated p upper) j * number_at v (high + j)) (a.cols - high)) n)
        ∙ ap (λ z. z % n) (sym (sum_of_parts (number_at v)))

  -- the row added to other numbers, first one part and then the other
  module _ (n c : ℕ) (old : List ℕ) (holds : HoldsNumbers n a.cols old) where
    pub lower_sums : (k : ℕ) (d : Entry) → k < length lower →
        get_or (take (high - low) (drop low old)) (get_or lower k d).place 0 < n
    lower_sums k d l =
        let place : (get_or lower k d).place < high - low = row.lower_fits k d l in
        subst (λ z. z < n) (sym (part_read low (high - low) old (get_or lower k d).place place))
        (holds.below (low + (get_or lower k d).place) (omega (arith, row.in_order, row.within)))

    module _ (new : List ℕ) (counted : length new ≡ high - low) where
      abbrev middle : List ℕ
      middle = put_mid low (high - low) old new

      low_within : low ≤ length old
      low_within = omega (arith, row.in_order, row.within, holds.room)

      middle_last : (j : ℕ) → get_or (put_mid low (high - low) old new) (high + j) 0 ≡ get_or old (high + j) 0
      middle_last j = part_after low (high - low) old new (high + j) (omega (arith, row.in_order)) low_within counted

      middle_length : length (put_mid low (high - low) old new) ≡ length old
      middle_length = part_length low (high - low) old new (omega (arith, row.in_order, row.within, holds.room)) counted

      pub upper_sums : (k : ℕ) (d : Entry) → k < length upper →
          get_or (take (length (put_mid low (high - low) old new) - high)
          (drop high (put_mid low (high - low) old new))) (get_or upper k d).place 0 < n
      upper_sums k d l =
          let place : (get_or upper k d).place < a.cols - high = row.upper_fits k d l in
          subst (λ z. z < n)
          (sym (part_read high (length middle - high) middle (get_or upper k d).place
          (omega (arith, middle_length, row.within, holds.room)) ∙ middle_last (get_or upper k d).place))
          (holds.below (high + (get_or upper k d).place) (omega (arith, row.within)))

      module _ (final : List ℕ) (final_counted : length final ≡ length (put_mid low (high - low) old new) - high)
          (first_added : AddsEntries n c lower (take (high - low) (drop low old)) new)
          (last_added : AddsEntries n c (negated p upper)
          (take (length (put_mid low (high - low) old new) - high) (drop high (put_mid low (high - low) old new)))
          final) where
        abbrev whole : List ℕ
        whole = put_mid high (length (put_mid low (high - low) old new) - high) (put_mid low (high - low) old new) final

        high_within : high ≤ length (put_mid low (high - low) old new)
        high_within = omega (arith, middle_length, row.within, holds.room)

        -- nothing is added before the first part
        added_before : (k : ℕ) → k < low → get_or whole k 0 ≡ (get_or old k 0 + c * a.entry i k) % n
        added_before k outside =
            let nothing : get_or old k 0 + c * 0 ≡ get_or old k 0 = omega arith in
            part_before high (length middle - high) middle final k (omega (arith, row.in_order)) high_within
            ∙ part_before low (high - low) old new k outside low_within
            ∙ sym (ap (λ z. (get_or old k 0 + c * z) % n) (entry_before k outside) ∙ ap (λ z. z % n) nothing
            ∙ mod-eq_of_lt (holds.below k (omega (arith, row.in_order, row.within))))

        added_first : (j : ℕ) → j < high - low →
            get_or whole (low + j) 0 ≡ (get_or old (low + j) 0 + c * a.entry i (low + j)) % n
        added_first j inside =
            let before : get_or (take (high - low) (drop low old)) j 0 ≡ get_or old (low + j) 0 =
            part_read low (high - low) old j inside in
            part_before high (length middle - high) middle final (low + j) (omega (arith, row.in_order)) high_within
            ∙ part_inside low (high - low) old new j low_within (omega (arith, counted))
            ∙ first_added.added j
            (subst (λ z. z < n) (sym before) (holds.below (low + j) (omega (arith, row.in_order, row.within))))
            ∙ ap₂ (λ s t. (s + c * t) % n) before (sym (entry_first j inside))

        added_last : (j : ℕ) → j < a.cols - high →
            get_or whole (high + j) 0 ≡ (get_or old (high + j) 0 + c * a.entry i (high + j)) % n
        added_last j inside =
            let before : get_or (take (length middle - high) (drop high middle)) j 0 ≡ get_or old (high + j) 0 =
            part_read high (length middle - high) middle j (omega (arith, middle_length, row.within, holds.room))
            ∙ middle_last j in
            part_inside high (length middle - high) middle final j high_within
            (omega (arith, final_counted, middle_length, row.within, holds.room))
            ∙ last_added.added j (subst (λ z. z < n) (sym before) (holds.below (high + j) (omega (arith, row.within))))
            ∙ ap₂ (λ s t. (s + c * t) % n) before (sym (entry_last j inside))

        -- and none behind the last column
        added_none : (j : ℕ) → a.cols ≤ high + j → get_or whole (high + j) 0 ≡ get_or old (high + j) 0
        added_none j past = elim (cases_lt j (length middle - high)) [
          | inl inside ↦
              part_inside high (length middle - high) middle final j high_within (omega (arith, inside, final_counted))
              ∙ last_added.others j
              (number_at-past (negated p upper) j
              (fits_above (negated p upper) (a.cols - high) j (omega (arith, past, row.within)) taken_fits))
              ∙ part_read high (length middle - high) middle j inside
              ∙ middle_last j
          | inr behind ↦
              part_after high (length middle - high) middle final (high + j) (omega (arith, behind)) high_within
              final_counted ∙ middle_last j
        ]

        pub row_added : IsRowAddedTo n a i c old
            (put_mid high (length (put_mid low (high - low) old new) - high) (put_mid low (high - low) old new) final)
        row_added = record {
          added = λ k inside. elim (cases_lt k low) [
            | inl outside ↦ added_before k outside
            | inr from ↦
                elim (cases_lt k high) [
                  | inl before ↦
                      let at : low + (k - low) ≡ k = omega arith in
                      ap (λ m. get_or whole m 0) (sym at) ∙ added_first (k - low) (omega arith)
                      ∙ ap (λ m. (get_or old m 0 + c * a.entry i m) % n) at
                  | inr last ↦
                      let at : high + (k - high) ≡ k = omega arith in
                      ap (λ m. get_or whole m 0) (sym at) ∙ added_last (k - high) (omega (arith, inside))
                      ∙ ap (λ m. (get_or old m 0 + c * a.entry i m) % n) at
                ]
          ];
          others = λ k past.
              let at : high + (k - high) ≡ k = omega (arith, past, row.within) in
              ap (λ m. get_or whole m 0) (sym at) ∙ added_none (k - high) (omega (arith, past))
              ∙ ap (λ m. get_or old m 0) at;
        }
