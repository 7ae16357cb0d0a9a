-- Rows of which one is changed or two change places, and a row that is taken out and put back.
use Rattle.std.proofs.Common.{◌≡◌, ◌≢◌, ℕ, ◌+◌, ◌*◌, ◌%◌, ◌<◌, List, [], ◌∷◌, ◌++◌, length, get_or, slice_index, set, length-set, length-append, get_or-set_same, get_or-set_other, refl, sym, ap, subst, ◌∙◌, inl, inr, arith}
use Rattle.std.specs.List.{SwappedAt}
use Rattle.std.proofs.Math.Nat.{mod-eq_of_lt}
use Rattle.std.proofs.lemmas.Bool.{cases_eq, cases_lt}
use Rattle.std.proofs.lemmas.List.{get_or_push, get_or_append_left, get_or_default, same_lists}
use Rattle.bmp_math.specs.Matrices.{Matrix, NumbersBelow}
use Rattle.bmp_field.specs.Runs.{AreBelow}
use Rattle.bmp_linear.specs.NumberRows.{NumberRows, matrix_of_rows, row_at, HaveLength, HoldsRows, IsRowSum, IsRowTimes, AreRowsSummedBelow}
use Rattle.bmp_linear.specs.KeptRows.{spread_numbers}
use Rattle.bmp_linear.proofs.KeptRowLemmas.{sum_as, spread-length, spread-at}
use Rattle.bmp_linear.proofs.RowTableLemmas.{row_pushed_as}
use Rattle.bmp_linear.specs.RowChanges.{IsRowPushed, IsRowAdded, IsRowMultiplied, AreRowsExchanged, AreMultiplesAdded}

abbrev pub rows_matrix : ℕ → List (List ℕ) → Matrix
rows_matrix cols rows = matrix_of_rows (record { cols = cols; rows = rows })

pub row_is : (rows : List (List ℕ)) (i : ℕ) (row : List ℕ) → i < length rows → row ≡ get_or rows i row →
    row ≡ row_at rows i
row_is rows i row l is = is ∙ get_or_default rows i row [] l

pub row_pushed : (cols : ℕ) (rows : List (List ℕ)) (r : List ℕ) →
    IsRowPushed (rows_matrix cols rows) (rows_matrix cols (rows ++ r ∷ [])) (slice_index r)
row_pushed cols rows r = record {
  rows = length-append rows (r ∷ []);
  cols = refl;
  pushed = λ j l. ap (λ (es : List ℕ). get_or es j 0) (get_or_push rows r [] (length rows) refl);
  others = λ i j k l. ap (λ (es : List ℕ). get_or es j 0) (get_or_append_left rows (r ∷ []) [] i k);
}

pub pushed_lengths : (cols : ℕ) (rows : List (List ℕ)) (r : List ℕ) → HaveLength cols rows → length r ≡ cols →
    HaveLength cols (rows ++ r ∷ [])
pushed_lengths cols rows r lengths sized i l =
    let more : length (rows ++ r ∷ []) ≡ length rows + 1 = length-append rows (r ∷ []) in
    elim (cases_eq i (length rows)) [
      | inl last ↦ ap length (get_or_push rows r [] i (sym last)) ∙ sized
      | inr other ↦
          let before : i < length rows = omega arith in
          ap length (get_or_append_left rows (r ∷ []) [] i before) ∙ lengths i before
    ]

pub holds_rows : (p cols : ℕ) (rows : List (List ℕ)) → HaveLength cols rows → NumbersBelow p (rows_matrix cols rows) →
    HoldsRows p cols rows
holds_rows p cols rows lengths below = record {
  lengths = lengths;
  below = λ i l j m. below i j l (subst (λ n. j < n) (lengths i l) m);
}

module _ (cols : ℕ) (rows : List (List ℕ)) (i : ℕ) (w : List ℕ) (below : i < length rows) where
  pub set_here : row_at (set rows i w) i ≡ w
  set_here = get_or-set_same rows i w [] below

  pub set_elsewhere : (k : ℕ) → k ≢ i → row_at (set rows i w) k ≡ row_at rows k
  set_elsewhere k other = get_or-set_other rows i k w [] other

  pub set_lengths : HaveLength cols rows → length w ≡ cols → HaveLength cols (set rows i w)
  set_lengths lengths sized k l = elim (cases_eq k i) [
    | inl same ↦ ap (λ m. length (row_at (set rows i w) m)) same ∙ ap length set_here ∙ sized
    | inr other ↦ ap length (set_elsewhere k other) ∙ lengths k (subst (λ n. k < n) (length-set rows i w) l)
  ]

  pub row_times : (p c : ℕ) → HaveLength cols rows → IsRowTimes p c (row_at rows i) w →
      IsRowMultiplied p (rows_matrix cols rows) (rows_matrix cols (set rows i w)) i c
  row_times p c lengths times = record {
    rows = length-set rows i w;
    cols = refl;
    multiplied = λ j l. ap (λ (es : List ℕ). get_or es j 0) set_here
        ∙ times.multiplied j (subst (λ n. j < n) (sym (lengths i below)) l);
    others = λ k j l m other. ap (λ (es : List ℕ). get_or es j 0) (set_elsewhere k other);
  }

pub rows_swapped : (cols : ℕ) (rows new : List (List ℕ)) (i j : ℕ) → length new ≡ length rows → SwappedAt rows new i j →
    AreRowsExchanged (rows_matrix cols rows) (rows_matrix cols new) i j
rows_swapped cols rows new i j count swapped = record {
  rows = count;
  cols = refl;
  at_first = λ l m. ap (λ (es : List ℕ). get_or es l 0) (swapped.0 []);
  at_second = λ l m. ap (λ (es : List ℕ). get_or es l 0) (swapped.1 []);
  others = λ k l m n first second. ap (λ (es : List ℕ). get_or es l 0) (swapped.2 k [] first second);
}

pub swapped_lengths : (cols : ℕ) (rows new : List (List ℕ)) (i j : ℕ) → i < length rows → j < length rows →
    length new ≡ length rows → SwappedAt rows new i j → HaveLength cols rows → HaveLength cols new
swapped_lengths cols rows new i j first second count swapped lengths k l = elim (cases_eq k i) [
  | inl same ↦ ap (λ m. length (row_at new m)) same ∙ ap length (swapped.0 []) ∙ lengths j second
  | inr other ↦ elim (cases_eq k j) [
    | inl same ↦ ap (λ m. length (row_at new m)) same ∙ ap length (swapped.1 []) ∙ lengths i first
    | inr apart ↦ ap length (swapped.2 k [] other apart) ∙ lengths k (subst (λ n. k < n) count l)
  ]
]

-- the row `from` is out, others are changed, and it is put back
module _ (cols : ℕ) (rows : List (List ℕ)) (from : ℕ) (z : List ℕ) (below : from < length rows)
    (mid : List (List ℕ)) (count : length mid ≡ length (set rows from z)) where
  whole : length mid ≡ length rows
  whole = count ∙ length-set rows from z

  pub back_count : length (set mid from (row_at rows from)) ≡ length rows
  back_count = length-set mid from (row_at rows from) ∙ whole

  back_here : row_at (set mid from (row_at rows from)) from ≡ row_at rows from
  back_here = get_or-set_same mid from (row_at rows from) [] (subst (λ n. from < n) (sym whole) below)

  back_elsewhere : (k : ℕ) → k ≢ from → row_at (set mid from (row_at rows from)) k ≡ row_at mid k
  back_elsewhere k other = get_or-set_other mid from k (row_at rows from) [] other

  out_elsewhere : (k : ℕ) → k ≢ from → row_at (set rows from z) k ≡ row_at rows k
  out_elsewhere k other = get_or-set_other rows from k z [] other

  out_below : (k : ℕ) → k < length rows → k < length (set rows from z)
  out_below k l = subst (λ n. k < n) (sym (length-set rows from z)) l

  pub back_lengths : HaveLength cols rows → HaveLength cols mid → HaveLength cols (set mid from (row_at rows from))
  back_lengths lengths sized =
      set_lengths cols mid from (row_at rows from) (subst (λ n. from < n) (sym whole) below) sized (lengths from below)

  -- nothing was changed
  pub back_same : ((k : ℕ) → k < length rows → k ≢ from → row_at mid k ≡ row_at (set rows from z) k) →
      set mid from (row_at rows from) ≡ rows
  back_same same = same_lists (set mid from (row_at rows from)) rows back_count (λ k d l.
      let inside : k < length rows = subst (λ n. k < n) back_count l in
      get_or_default (set mid from (row_at rows from)) k d [] l
      ∙ (elim (cases_eq k from) [
        | inl here ↦ ap (row_at (set mid from (row_at rows from))) here ∙ back_here ∙ ap (row_at rows) (sym here)
        | inr other ↦ back_elsewhere k other ∙ same k inside other ∙ out_elsewhere k other
      ])
      ∙ sym (get_or_default rows k d [] inside))

  -- the others were summed
  pub back_summed : (p : ℕ) (c : ℕ → ℕ) → HaveLength cols rows →
      AreRowsSummedBelow (length (set rows from z)) p from c (slice_index (row_at rows from)) (set rows from z) mid →
      AreMultiplesAdded p (rows_matrix cols rows) (rows_matrix cols (set mid from (row_at rows from))) from c
  back_summed p c lengths h = record {
    rows = back_count;
    cols = refl;
    added = λ i j l m other.
        let sum : IsRowSum p (c i) (row_at (set rows from z) i) (slice_index (row_at rows from)) (row_at mid i) =
        h.summed i (out_below i l) (out_below i l) other in
        ap (λ (es : List ℕ). get_or es j 0) (back_elsewhere i other)
        ∙ sum.summed j (subst (λ n. j < n) (sym (ap length (out_elsewhere i other) ∙ lengths i l)) m)
        ∙ ap (λ (es : List ℕ). (get_or es j 0 + c i * get_or (row_at rows from) j 0) % p) (out_elsewhere i other);
    kept = λ j l. ap (λ (es : List ℕ). get_or es j 0) back_here;
    others = λ i j l m n. absurd (omega arith);
  }

-- one row was summed while another is out
pub back_row_sum : (cols : ℕ) (rows : List (List ℕ)) (from into : ℕ) (z w : List ℕ) → from < length rows →
    into < length rows → into ≢ from → (p c : ℕ) → HaveLength cols rows →
    IsRowSum p c (row_at (set rows from z) into) (slice_index (row_at rows from)) w →
    IsRowAdded p (rows_matrix cols rows) (rows_matrix cols (set (set (set rows from z) into w) from (row_at rows from)))
    into from c
back_row_sum cols rows from into z w first second apart p c lengths sum =
    let out : List (List ℕ) = set rows from z in
    let count : length out ≡ length rows = length-set rows from z in
    let summed : length (set out into w) ≡ length out = length-set out into w in
    let same : row_at out into ≡ row_at rows into = get_or-set_other rows from into z [] apart in
    record {
      rows = length-set (set out into w) from (row_at rows from) ∙ summed ∙ count;
      cols = refl;
      added = λ j l.
          ap (λ (es : List ℕ). get_or es j 0)
          (get_or-set_other (set out into w) from into (row_at rows from) [] apart
          ∙ get_or-set_same out into w [] (subst (λ n. into < n) (sym count) second))
          ∙ sum.summed j (subst (λ n. j < n) (sym (ap length same ∙ lengths into second)) l)
          ∙ ap (λ (es : List ℕ). (get_or es j 0 + c * get_or (row_at rows from) j 0) % p) same;
      others = λ k j l m other. ap (λ (es : List ℕ). get_or es j 0) (elim (cases_eq k from) [
        | inl here ↦
            ap (row_at (set (set out into w) from (row_at rows from))) here
            ∙ get_or-set_same (set out into w) from (row_at rows from) [] (omega arith)
            ∙ ap (row_at rows) (sym here)
        | inr away ↦
            get_or-set_other (set out into w) from k (row_at rows from) [] away
            ∙ get_or-set_other out into k w [] other
            ∙ get_or-set_other rows from k z [] away
      ]);
    }

-- no row
pub summed_none : (p from : ℕ) (c v : ℕ → ℕ) (rows : List (List ℕ)) → AreRowsSummedBelow 0 p from c v rows rows
summed_none p from c v rows = record {
  count = refl;
  summed = λ i l. absurd (omega arith);
  others = λ i l e. refl;
}

module _ (n p from : ℕ) (c v : ℕ → ℕ) (rows mid : List (List ℕ)) (h : AreRowsSummedBelow n p from c v rows mid)
    (within : n < length rows) where
  -- the next row is as it was
  pub next_row : row_at mid n ≡ row_at rows n
  next_row = h.others n within (inr (omega arith))

  pub current_row : (d : List ℕ) → get_or mid n d ≡ row_at rows n
  current_row d = get_or_default mid n d [] (subst (λ k. n < k) (sym h.count) within) ∙ next_row

  -- one row more
  pub summed_more : (w : List ℕ) → n ≢ from → IsRowSum p (c n) (row_at rows n) v w →
      AreRowsSummedBelow (n + 1) p from c v rows (set mid n w)
  summed_more w apart sum = record {
    count = length-set mid n w ∙ h.count;
    summed = λ i l m other. elim (cases_eq i n) [
      | inl same ↦
          subst (λ k. IsRowSum p (c k) (row_at rows k) v (row_at (set mid n w) k)) (sym same)
          (subst (IsRowSum p (c n) (row_at rows n) v)
          (sym (get_or-set_same mid n w [] (subst (λ k. n < k) (sym h.count) within))) sum)
      | inr away ↦
          subst (IsRowSum p (c i) (row_at rows i) v) (sym (get_or-set_other mid n i w [] away))
          (h.summed i (omega arith) m other)
    ];
    others = λ i l e.
        let away : i ≢ n = elim e [ inl same ↦ (λ t. apart (sym t ∙ same)) | inr late ↦ (λ t. absurd (omega arith)) ] in
        get_or-set_other mid n i w [] away
        ∙ h.others i l (elim e [ inl same ↦ inl same | inr late ↦ inr (omega arith) ]);
  }

  -- one row more, to which nothing is to be added
  pub summed_skip : AreBelow p (row_at rows n) → (n ≢ from → c n ≡ 0) → AreRowsSummedBelow (n + 1) p from c v rows mid
  summed_skip below none = record {
    count = h.count;
    summed = λ i l m other. elim (cases_eq i n) [
      | inl same ↦
          subst (λ k. IsRowSum p (c k) (row_at rows k) v (row_at mid k)) (sym same)
          (unchanged (none (λ e. other (same ∙ e))))
      | inr away ↦ h.summed i (omega arith) m other
    ];
    others = λ i l e. h.others i l (elim e [ inl same ↦ inl same | inr late ↦ inr (omega arith) ]);
  }
    where
      unchanged : c n ≡ 0 → IsRowSum p (c n) (row_at rows n) v (row_at mid n)
      unchanged zero = record {
        length_is = ap length next_row;
        summed = λ j l.
            let times : c n * v j ≡ 0 * v j = ap (λ x. x * v j) zero in
            let whole : get_or (row_at rows n) j 0 ≡ get_or (row_at rows n) j 0 + c n * v j = omega arith in
            ap (λ (es : List ℕ). get_or es j 0) next_row ∙ sym (mod-eq_of_lt (below j l)) ∙ ap (λ x. x % p) whole;
      }

-- the rows keep their lengths
pub summed_lengths : (n p from cols : ℕ) (c v : ℕ → ℕ) (rows mid : List (List ℕ)) → HaveLength cols rows →
    AreRowsSummedBelow n p from c v rows mid → HaveLength cols mid
summed_lengths n p from cols c v rows mid lengths h i l =
    let inside : i < length rows = subst (λ k. i < k) h.count l in
    elim (cases_lt i n) [
      | inl early ↦ elim (cases_eq i from) [
        | inl same ↦ ap length (h.others i inside (inl same)) ∙ lengths i inside
        | inr other ↦ (let sum = h.summed i early inside other in sum.length_is) ∙ lengths i inside
      ]
      | inr late ↦ ap length (h.others i inside (inr late)) ∙ lengths i inside
    ]

pub sum_of : {p c d : ℕ} {r s w : List ℕ} (v : ℕ → ℕ) → c ≡ d → r ≡ s → IsRowSum p c r v w → IsRowSum p d s v w
sum_of {p} {c} {d} {r} {s} {w} v same rows sum =
    subst (λ e. IsRowSum p e s v w) same (subst (λ (x : List ℕ). IsRowSum p c x v w) rows sum)

-- the same numbers were added
pub summed_as : {n p from cols : ℕ} {c : ℕ → ℕ} {rows mid : List (List ℕ)} (u v : ℕ → ℕ) → HaveLength cols rows →
    ((j : ℕ) → j < cols → u j ≡ v j) → AreRowsSummedBelow n p from c u rows mid →
    AreRowsSummedBelow n p from c v rows mid
summed_as u v lengths same h = record {
  count = h.count;
  summed = λ i l m other.
      sum_as u v (λ j x. same j (subst (λ k. j < k) (lengths i m) x)) (h.summed i l m other);
  others = h.others;
}

-- a row of zeros in place of another
pub zero_out : (p cols : ℕ) (rows : List (List ℕ)) (from : ℕ) (z : List ℕ) → 0 < p → from < length rows →
    z ≡ spread_numbers cols [] → HoldsRows p cols rows → HoldsRows p cols (set rows from z)
zero_out p cols rows from z some below is_z h =
    let sized : length z ≡ cols = ap length is_z ∙ spread-length cols [] in
    record {
      lengths = set_lengths cols rows from z below h.lengths sized;
      below = λ i l. elim (cases_eq i from) [
        | inl same ↦
            subst (λ k. AreBelow p (row_at (set rows from z) k)) (sym same)
            (subst (AreBelow p) (sym (set_here cols rows from z below))
            (λ j m. subst (λ n. n < p)
            (sym (ap (λ (xs : List ℕ). get_or xs j 0) is_z ∙ spread-at cols [] j (subst (λ n. j < n) sized m))) some))
        | inr other ↦
            subst (AreBelow p) (sym (set_elsewhere cols rows from z below i other))
            (h.below i (subst (λ n. i < n) (length-set rows from z) l))
      ];
    }

-- the same, of what is seen of the rows
module _ (t : NumberRows) (cols : ℕ) (rows : List (List ℕ)) (seen : record { cols = cols; rows = rows } ≡ t) where
  pub within : (i : ℕ) → i < length t.rows → i < length rows
  within i l = subst (λ (u : NumberRows). i < length u.rows) (sym seen) l

  pub seen_below : (p : ℕ) → NumbersBelow p (matrix_of_rows t) → NumbersBelow p (rows_matrix cols rows)
  seen_below p numbers = subst (λ (u : NumberRows). NumbersBelow p (matrix_of_rows u)) (sym seen) numbers

  pub table_pushed : (new : List (List ℕ)) (r : List ℕ) (v : ℕ → ℕ) → new ≡ rows ++ r ∷ [] →
      ((j : ℕ) → j < cols → get_or r j 0 ≡ v j) → IsRowPushed (matrix_of_rows t) (rows_matrix cols new) v
  table_pushed new r v is_new same =
      subst (λ (u : NumberRows). IsRowPushed (matrix_of_rows u) (rows_matrix cols new) v) seen
      (subst (λ xs. IsRowPushed (rows_matrix cols rows) (rows_matrix cols xs) v) (sym is_new)
      (row_pushed_as (rows_matrix cols rows) (rows_matrix cols (rows ++ r ∷ [])) (slice_index r) v same
      (row_pushed cols rows r)))

  pub table_times : (i : ℕ) (r w : List ℕ) → i < length rows → r ≡ row_at rows i → HaveLength cols rows → (p c : ℕ) →
      IsRowTimes p c r w → IsRowMultiplied p (matrix_of_rows t) (rows_matrix cols (set rows i w)) i c
  table_times i r w below is_r lengths p c times =
      subst (λ (u : NumberRows). IsRowMultiplied p (matrix_of_rows u) (rows_matrix cols (set rows i w)) i c) seen
      (row_times cols rows i w below p c lengths (subst (λ (x : List ℕ). IsRowTimes p c x w) is_r times))

  pub table_swapped : (new : List (List ℕ)) (i j : ℕ) → length new ≡ length rows → SwappedAt rows new i j →
      AreRowsExchanged (matrix_of_rows t) (rows_matrix cols new) i j
  table_swapped new i j count swapped =
      subst (λ (u : NumberRows). AreRowsExchanged (matrix_of_rows u) (rows_matrix cols new) i j) seen
      (rows_swapped cols rows new i j count swapped)

  module _ (from : ℕ) (z pivot : List ℕ) (below : from < length rows) (is_pivot : pivot ≡ row_at rows from)
      (lengths : HaveLength cols rows) where
    pub table_sum : (into : ℕ) (r w : List ℕ) → into < length rows → into ≢ from → r ≡ row_at (set rows from z) into →
        (p c : ℕ) → IsRowSum p c r (slice_index pivot) w →
        IsRowAdded p (matrix_of_rows t) (rows_matrix cols (set (set (set rows from z) into w) from pivot)) into from c
    table_sum into r w second apart is_r p c sum =
        subst (λ (u : NumberRows). IsRowAdded p (matrix_of_rows u)
        (rows_matrix cols (set (set (set rows from z) into w) from pivot)) into from c) seen
        (subst (λ (x : List ℕ). IsRowAdded p (rows_matrix cols rows)
        (rows_matrix cols (set (set (set rows from z) into w) from x)) into from c) (sym is_pivot)
        (back_row_sum cols rows from into z w below second apart p c lengths
        (subst (λ (x : List ℕ). IsRowSum p c (row_at (set rows from z) into) (slice_index x) w) is_pivot
        (subst (λ (x : List ℕ). IsRowSum p c x (slice_index pivot) w) is_r sum))))

    -- one row was to be summed, and nothing was changed
    pub table_kept : (into : ℕ) (r w : List ℕ) → into < length rows → r ≡ row_at (set rows from z) into → w ≡ r →
        record { cols = cols; rows = set (set (set rows from z) into w) from pivot } ≡ t
    table_kept into r w second is_r is_w =
        ap (λ (xs : List (List ℕ)). record { cols = cols; rows = xs })
        (ap (set (set (set rows from z) into w) from) is_pivot
        ∙ back_same cols rows from z below (set (set rows from z) into w) (length-set (set rows from z) into w)
        (λ k l other. elim (cases_eq k into) [
          | inl same ↦
              ap (row_at (set (set rows from z) into w)) same
              ∙ get_or-set_same (set rows from z) into w []
              (subst (λ n. into < n) (sym (length-set rows from z)) second)
              ∙ is_w ∙ is_r ∙ ap (row_at (set rows from z)) (sym same)
          | inr away ↦ get_or-set_other (set rows from z) into k w [] away
        ]))
        ∙ seen

    pub table_summed : (mid items : List (List ℕ)) → items ≡ mid → length mid ≡ length (set rows from z) →
        (p : ℕ) (c : ℕ → ℕ) →
        AreRowsSummedBelow (length (set rows from z)) p from c (slice_index pivot) (set rows from z) mid →
        AreMultiplesAdded p (matrix_of_rows t) (rows_matrix cols (set items from pivot)) from c
    table_summed mid items same count p c h =
        subst (λ (u : NumberRows). AreMultiplesAdded p (matrix_of_rows u) (rows_matrix cols (set items from pivot)) from
        c)
        seen
        (subst (λ xs. AreMultiplesAdded p (rows_matrix cols rows) (rows_matrix cols (set xs from pivot)) from c)
        (sym same)
        (subst (λ (x : List ℕ). AreMultiplesAdded p (rows_matrix cols rows) (rows_matrix cols (set mid from x)) from c)
        (sym is_pivot)
        (back_summed cols rows from z below mid count p c lengths
        (subst (λ (x : List ℕ). AreRowsSummedBelow (length (set rows from z)) p from c (slice_index x) (set rows from z)
        mid)
        is_pivot h))))

    -- the shape of the rows once the row is put back
    pub table_back : (mid : List (List ℕ)) → length mid ≡ length rows → HaveLength cols mid → length rows < 4294967296 →
        cols < 4294967296 →
        (length (set mid from pivot) < 4294967296) × (cols < 4294967296) × HaveLength cols (set mid from pivot)
    table_back mid count sized few limit = (
      subst (λ n. n < 4294967296) (sym (length-set mid from pivot ∙ count)) few,
      limit,
      set_lengths cols mid from pivot (subst (λ n. from < n) (sym count) below) sized
          (ap length is_pivot ∙ lengths from below),
    )

    pub out_lengths : (into : ℕ) (r w : List ℕ) → into < length rows → length z ≡ cols →
        r ≡ row_at (set rows from z) into → length w ≡ length r → HaveLength cols (set (set rows from z) into w)
    out_lengths into r w second zero is_r sized =
        let out : HaveLength cols (set rows from z) = set_lengths cols rows from z below lengths zero in
        let inside : into < length (set rows from z) = subst (λ n. into < n) (sym (length-set rows from z)) second in
        set_lengths cols (set rows from z) into w inside out (sized ∙ ap length is_r ∙ out into inside)
