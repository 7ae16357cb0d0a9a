-- Sparse rows of which one is replaced or two change places.
use Rattle.std.proofs.Common.{◌≡◌, ◌≢◌, ℕ, ◌+◌, ◌*◌, ◌%◌, ◌<◌, ◌≤◌, List, [], ◌∷◌, ◌++◌, take, take_all, length, get_or, set, map, length-set, get_or-set_same, get_or-set_other, sym, ap, ap₂, subst, ◌∙◌, inl, inr, arith}
use Rattle.std.specs.List.{All, SwappedAt}
use Rattle.std.proofs.lemmas.Bool.{cases_eq}
use Rattle.std.proofs.lemmas.List.{map-set, map-append, length-map, get_or-map, take_more}
use Rattle.std.proofs.lemmas.List.Elements.{All-set}
use Rattle.smallvec.specs.SmallVec.{SmallVec, with_items}
use Rattle.smallvec.proofs.SmallVecLemmas.{items-with_items}
use Rattle.bmp_linear.specs.declared.vector.Entry.{Entry}
use Rattle.bmp_linear.specs.SparseVectors.{IsSparse, FitsBelow, number_at}
use Rattle.bmp_linear.specs.RowTables.{EntryTable, matrix_of_entries, entries_of}
use Rattle.bmp_linear.specs.RowChanges.{IsRowAdded, IsRowMultiplied, AreRowsExchanged}
use Rattle.bmp_linear.specs.EntryChanges.{times_entry, IsEntrySum}
use Rattle.bmp_linear.proofs.EntryTimesLemmas.{number_at-times, times_sparse, times_fits, sum_fits}
use Rattle.bmp_linear.proofs.SparseRowLemmas.{IsSparseRow}

-- the invariant of sparse rows
abbrev pub AreSparseRows : ℕ → List (SmallVec Entry) → Type 0
AreSparseRows cols rows = (length rows < 4294967296) × (cols < 4294967296) × All (λ r. IsSparse r.items) rows ×
    All (λ r. FitsBelow r.items cols) rows

still_sparse : (cols : ℕ) (rows : List (SmallVec Entry)) (i : ℕ) (w : SmallVec Entry) → AreSparseRows cols rows →
    IsSparse w.items → FitsBelow w.items cols → AreSparseRows cols (set rows i w)
still_sparse cols rows i w h sparse fits = (
  (let same : length (set rows i w) ≡ length rows = length-set rows i w in omega (arith, h.0)),
  h.1,
  All-set (λ r. IsSparse r.items) rows i w sparse h.2,
  All-set (λ r. FitsBelow r.items cols) rows i w fits h.3,
)

-- one row more is copied
pub copied_more : (rows : List (SmallVec Entry)) (i : ℕ) (copy new : List (SmallVec Entry)) (row own : SmallVec Entry)
    (es : List Entry) → i < length rows → map entries_of copy ≡ take i (map entries_of rows) → row ≡ get_or rows i row →
    es ≡ row.items → own.items ≡ es → new ≡ copy ++ own ∷ [] → map entries_of new ≡ take (i + 1) (map entries_of rows)
copied_more rows i copy new row own es within so_far is_row is_es is_own is_new =
    let count : length (map entries_of rows) ≡ length rows = length-map rows entries_of in
    let inside : i < length (map entries_of rows) = omega arith in
    let same : own.items ≡ get_or (map entries_of rows) i [] = is_own ∙ is_es ∙ ap entries_of is_row
    ∙ sym (get_or-map entries_of rows i row [] within) in
    ap (map entries_of) is_new ∙ map-append entries_of copy (own ∷ []) ∙ ap₂ (λ xs x. xs ++ x ∷ []) so_far same
    ∙ sym (take_more (map entries_of rows) i [] inside)

pub copied_all : (rows items : List (SmallVec Entry)) (i : ℕ) (copy : List (SmallVec Entry)) → items ≡ rows →
    length items ≤ i → map entries_of copy ≡ take i (map entries_of items) → map entries_of copy ≡ map entries_of rows
copied_all rows items i copy is_rows past so_far =
    let count : length (map entries_of items) ≡ length items = length-map items entries_of in
    so_far ∙ take_all i (map entries_of items) (omega arith) ∙ ap (map entries_of) is_rows

-- rows with the same entries
pub copied_table : (t : EntryTable) (cols : ℕ) (rows copy : List (SmallVec Entry)) →
    map entries_of copy ≡ map entries_of rows → record { cols = cols; rows = map entries_of rows } ≡ t →
    record { cols = cols; rows = map entries_of copy } ≡ t
copied_table t cols rows copy same seen = ap (λ (xs : List (List Entry)). record { cols = cols; rows = xs }) same ∙ seen

pub copied_sparse : (cols : ℕ) (rows copy : List (SmallVec Entry)) → map entries_of copy ≡ map entries_of rows →
    AreSparseRows cols rows → AreSparseRows cols copy
copied_sparse cols rows copy same h =
    let count : length copy ≡ length rows = sym (length-map copy entries_of) ∙ ap length same
    ∙ length-map rows entries_of in
    (omega (arith, h.0), h.1, keep IsSparse h.2, keep (λ es. FitsBelow es cols) h.3)
  where
    keep : (P : List Entry → Type 0) → All (λ r. P r.items) rows → All (λ r. P r.items) copy
    keep P all k d l =
        let count : length copy ≡ length rows = sym (length-map copy entries_of) ∙ ap length same
        ∙ length-map rows entries_of in
        let within : k < length rows = omega arith in
        subst P (sym (get_or-map entries_of rows k d [] within) ∙ sym (ap (λ xs. get_or xs k []) same)
        ∙ get_or-map entries_of copy k d [] l) (all k d within)

-- what a row keeps once the multiplied entries are written
pub written_times : (p c : ℕ) (row : SmallVec Entry) (es new : List Entry) → es ≡ row.items →
    new ≡ map (times_entry p c) es → (with_items row new).items ≡ map (times_entry p c) es
written_times p c row es new is_es is_new =
    items-with_items row new (ap length is_new ∙ length-map es (times_entry p c) ∙ ap length is_es) ∙ is_new

module _ (t : EntryTable) (cols : ℕ) (rows : List (SmallVec Entry))
    (seen : record { cols = cols; rows = map entries_of rows } ≡ t) where
  old_count : length rows ≡ length t.rows
  old_count = sym (length-map rows entries_of) ∙ ap (λ (u : EntryTable). length u.rows) seen

  same_cols : cols ≡ t.cols
  same_cols = ap (λ (u : EntryTable). u.cols) seen

  old_entry : (k j : ℕ) → number_at (get_or (map entries_of rows) k []) j ≡ (matrix_of_entries t).entry k j
  old_entry k j = ap (λ (u : EntryTable). (matrix_of_entries u).entry k j) seen

  module _ (i : ℕ) (w : SmallVec Entry) (below : i < length t.rows) where
    new_count : length (map entries_of (set rows i w)) ≡ length t.rows
    new_count = length-map (set rows i w) entries_of ∙ length-set rows i w ∙ old_count

    here : get_or (map entries_of (set rows i w)) i [] ≡ w.items
    here =
        let count : length (map entries_of rows) ≡ length rows = length-map rows entries_of in
        let known : length rows ≡ length t.rows = old_count in
        let within : i < length (map entries_of rows) = omega arith in
        ap (λ es. get_or es i []) (map-set entries_of rows i w)
        ∙ get_or-set_same (map entries_of rows) i w.items [] within

    elsewhere : (k j : ℕ) → k ≢ i → number_at (get_or (map entries_of (set rows i w)) k []) j
        ≡ (matrix_of_entries t).entry k j
    elsewhere k j other = ap (λ es. number_at (get_or es k []) j) (map-set entries_of rows i w)
        ∙ ap (λ es. number_at es j) (get_or-set_other (map entries_of rows) i k w.items [] other) ∙ old_entry k j

    pub row_sum : (p c from : ℕ) (u v : List Entry) → IsSparseRow p t i u → IsSparseRow p t from v →
        IsEntrySum p c u v w.items →
        IsRowAdded p (matrix_of_entries t)
        (matrix_of_entries (record { cols = cols; rows = map entries_of (set rows i w) })) i from c
    row_sum p c from u v first second sum = record {
      rows = new_count;
      cols = same_cols;
      added = λ j l. ap (λ es. number_at es j) here ∙ sum.same j
          ∙ ap₂ (λ x y. (x + c * y) % p) (first.same j) (second.same j);
      others = λ k j l m other. elsewhere k j other;
    }

    pub row_times : (p c : ℕ) (u : List Entry) → IsSparseRow p t i u → w.items ≡ map (times_entry p c) u →
        IsRowMultiplied p (matrix_of_entries t)
        (matrix_of_entries (record { cols = cols; rows = map entries_of (set rows i w) })) i c
    row_times p c u row is_w = record {
      rows = new_count;
      cols = same_cols;
      multiplied = λ j l. ap (λ es. number_at es j) (here ∙ is_w) ∙ number_at-times p c u j
          ∙ ap (λ x. (c * x) % p) (row.same j);
      others = λ k j l m other. elsewhere k j other;
    }

    pub sum_sparse : (p c from : ℕ) (u v : List Entry) → IsSparseRow p t i u → IsSparseRow p t from v →
        IsEntrySum p c u v w.items → AreSparseRows cols rows → AreSparseRows cols (set rows i w)
    sum_sparse p c from u v first second sum h =
        still_sparse cols rows i w h sum.sparse
        (subst (FitsBelow w.items) (sym same_cols) (sum_fits p c t.cols u v w.items first.fits second.fits sum))

    pub times_sparse_rows : (p c m : ℕ) (u : List Entry) → 2 ≤ p → (c * m) % p ≡ 1 → IsSparseRow p t i u →
        w.items ≡ map (times_entry p c) u → AreSparseRows cols rows → AreSparseRows cols (set rows i w)
    times_sparse_rows p c m u two inverse row is_w h =
        still_sparse cols rows i w h
        (subst IsSparse (sym is_w) (times_sparse p c m u two inverse row.values row.sparse))
        (subst (FitsBelow w.items) (sym same_cols)
        (subst (λ v. FitsBelow v t.cols) (sym is_w) (times_fits p c t.cols u row.fits)))

  module _ (i j : ℕ) (new : List (SmallVec Entry)) (first : i < length t.rows) (second : j < length t.rows)
      (count : length new ≡ length rows) (swapped : SwappedAt rows new i j) where
    -- a row of the new rows is a row of the old ones
    from_old : (k m : ℕ) (d : SmallVec Entry) → k < length t.rows → m < length t.rows →
        get_or new k d ≡ get_or rows m d → (l : ℕ) → number_at (get_or (map entries_of new) k []) l
        ≡ (matrix_of_entries t).entry m l
    from_old k m d within inside same l =
        let known : length rows ≡ length t.rows = old_count in
        ap (λ es. number_at es l) (get_or-map entries_of new k d [] (omega arith) ∙ ap entries_of same
        ∙ sym (get_or-map entries_of rows m d [] (omega arith))) ∙ old_entry m l

    no_row : SmallVec Entry
    no_row = record { items = []; capacity = 0 }

    pub rows_swapped :
        AreRowsExchanged (matrix_of_entries t) (matrix_of_entries (record { cols = cols; rows = map entries_of new })) i
        j
    rows_swapped = record {
      rows = length-map new entries_of ∙ count ∙ old_count;
      cols = same_cols;
      at_first = λ l m. from_old i j no_row first second (swapped.0 no_row) l;
      at_second = λ l m. from_old j i no_row second first (swapped.1 no_row) l;
      others = λ k l m n other_first other_second. from_old k k no_row m m (swapped.2 k no_row other_first other_second)
          l;
    }

    -- what holds of all old rows holds of all new ones
    swapped_keep : (P : SmallVec Entry → Type 0) → All P rows → All P new
    swapped_keep P all k d l =
        let known : length rows ≡ length t.rows = old_count in
        elim (cases_eq k i) [
          | inl at ↦ subst P (sym (ap (λ m. get_or new m d) at ∙ swapped.0 d)) (all j d (omega arith))
          | inr other ↦ elim (cases_eq k j) [
            | inl at ↦ subst P (sym (ap (λ m. get_or new m d) at ∙ swapped.1 d)) (all i d (omega arith))
            | inr apart ↦ subst P (sym (swapped.2 k d other apart)) (all k d (omega arith))
          ]
        ]

    pub swapped_sparse : AreSparseRows cols rows → AreSparseRows cols new
    swapped_sparse h = (
      omega (arith, h.0),
      h.1,
      swapped_keep (λ r. IsSparse r.items) h.2,
      swapped_keep (λ r. FitsBelow r.items cols) h.3,
    )
