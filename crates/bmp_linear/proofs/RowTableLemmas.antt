-- Rows in memory: what stands where, and one row more.
use Rattle.std.proofs.Common.{◌≡◌, ◌≢◌, ℕ, ◌+◌, ◌-◌, ◌*◌, ◌<◌, ◌≤◌, ◌++◌, replicate, map, take_all, length-append, List, [], length, get_or, set, take, refl, ◌∷◌, eqb, eq-eqb, ne_eqb, length-set, get_or-set_same, get_or-set_other, sym, ap, ap₂, subst, ◌∙◌, inl, inr, arith}
use Rattle.std.proofs.lemmas.Bool.{cases_eq, cond-true, cond-false}
use Rattle.bmp_math.specs.Matrices.{Matrix}
use Rattle.std.proofs.lemmas.List.{get_or_push, get_or_append_left, get_or-append-add, get_or-map, length-map, length-replicate, map-append}
use Rattle.std.proofs.lemmas.Grind.{common_steps}
use Rattle.std.proofs.lemmas.Nat.{mul-add-lt}
use Rattle.smallvec.specs.SmallVec.{SmallVec}
use Rattle.bmp_linear.specs.declared.vector.Entry.{Entry}
use Rattle.bmp_linear.specs.RowTables.{NumberTable, EntryTable, matrix_of_numbers, matrix_of_entries, entries_of}
use Rattle.bmp_linear.specs.RowChanges.{IsRowPushed}
use Rattle.bmp_linear.specs.SparseVectors.{IsRising, number_at}
use Rattle.bmp_linear.proofs.SparseLemmas.{number_at_more}

-- behind `start` numbers of old, the numbers of v below cols
pub record IsRowWritten (v : List Entry) (start cols : ℕ) (old new : List ℕ) : Type 0 where
  pub length_is : length new ≡ start + cols
  pub written : (j : ℕ) → j < cols → get_or new (start + j) 0 ≡ number_at v j
  pub kept : (m : ℕ) → m < start → get_or new m 0 ≡ get_or old m 0

-- one entry more
pub row_written_more : (v : List Entry) (start cols : ℕ) (old new : List ℕ) (i : ℕ) (d : Entry) → IsRising v →
    i < length v → (get_or v i d).place < cols → IsRowWritten (take i v) start cols old new →
    IsRowWritten (take (i + 1) v) start cols old (set new (start + (get_or v i d).place) (get_or v i d).value)
row_written_more v start cols old new i d rising l below so_far =
    let at : ℕ = start + (get_or v i d).place in
    let n : ℕ = (get_or v i d).value in
    record {
      length_is = length-set new (start + (get_or v i d).place) (get_or v i d).value ∙ so_far.length_is;
      written = λ j within. elim (cases_eq (get_or v i d).place j) [
        | inl same ↦
            let whole : length new ≡ start + cols = so_far.length_is in
            let inside : start + (get_or v i d).place < length new = omega arith in
            ap (λ m. get_or (set new (start + (get_or v i d).place) (get_or v i d).value) (start + m) 0) (sym same)
            ∙ get_or-set_same new (start + (get_or v i d).place) (get_or v i d).value 0 inside
            ∙ sym (number_at_more v i j d rising l ∙ cond-true (eqb (get_or v i d).place j) (get_or v i d).value
            (number_at (take i v) j) (eq-eqb (get_or v i d).place j same))
        | inr other ↦
            let apart : start + j ≢ start + (get_or v i d).place = λ e. other (omega arith) in
            get_or-set_other new (start + (get_or v i d).place) (start + j) (get_or v i d).value 0 apart
            ∙ so_far.written j within
            ∙ sym (number_at_more v i j d rising l ∙ cond-false (eqb (get_or v i d).place j) (get_or v i d).value
            (number_at (take i v) j) (ne_eqb (get_or v i d).place j other))
      ];
      kept = λ m before. let apart : m ≢ start + (get_or v i d).place = omega arith in
          get_or-set_other new (start + (get_or v i d).place) m (get_or v i d).value 0 apart ∙ so_far.kept m before;
    }

-- all entries
pub row_written_all : (v u : List Entry) (i start cols : ℕ) (old new : List ℕ) → length v ≤ i → v ≡ u →
    start ≡ length old → IsRowWritten (take i v) start cols old new → IsRowWritten u (length old) cols old new
row_written_all v u i start cols old new past same at h =
    subst (λ s. IsRowWritten u s cols old new) at
    (subst (λ (w : List Entry). IsRowWritten w start cols old new) (take_all i v past ∙ same) h)

-- zeros behind the old rows
pub row_written_none : (start cols n : ℕ) (old new : List ℕ) → start ≡ length old → n ≡ start + cols →
    new ≡ take n old ++ replicate (n - start) 0 → IsRowWritten [] start cols old new
row_written_none start cols n old new is_start is_n is_new =
    let all : take n old ≡ old = take_all n old (omega arith) in
    let more : n - start ≡ cols = omega arith in
    let whole : new ≡ old ++ replicate cols 0 = is_new ∙ ap (λ xs. xs ++ replicate (n - start) 0) all
    ∙ ap (λ m. old ++ replicate m 0) more in
    record {
      length_is = ap length whole ∙ length-append old (replicate cols 0)
          ∙ (let count : length (replicate {A = ℕ} cols 0) ≡ cols = length-replicate {A = ℕ} cols 0 in omega arith);
      written = λ j l. ap (λ xs. get_or xs (start + j) 0) whole ∙ grind (arith, common_steps);
      kept = λ m l. ap (λ xs. get_or xs m 0) whole ∙ grind (arith, common_steps);
    }

-- the row that was written is the new last row
pub row_pushed : (t : NumberTable) (rows cols : ℕ) (new : List ℕ) (v : List Entry) →
    length t.numbers ≡ t.rows * t.cols → rows ≡ t.rows + 1 → cols ≡ t.cols →
    IsRowWritten v (length t.numbers) t.cols t.numbers new →
    IsRowPushed (matrix_of_numbers t) (matrix_of_numbers (record { rows = rows; cols = cols; numbers = new }))
    (number_at v)
row_pushed t rows cols new v full is_rows is_cols row = record {
  rows = is_rows;
  cols = is_cols;
  pushed = λ j l.
      let at : t.rows * cols + j ≡ length t.numbers + j = rw is_cols (omega (arith, full)) in
      ap (λ m. get_or new m 0) at ∙ row.written j l;
  others = λ i j k l.
      let before : i * t.cols + j < length t.numbers = let inside : i * t.cols + j < t.cols * t.rows =
      mul-add-lt i t.cols j t.rows k l in omega (arith, full, inside) in
      ap (λ w. get_or new (i * w + j) 0) is_cols ∙ row.kept (i * t.cols + j) before;
}

-- numbers that were appended are the new last row
pub numbers_pushed : (t : NumberTable) (rows cols : ℕ) (new xs : List ℕ) → length t.numbers ≡ t.rows * t.cols →
    rows ≡ t.rows + 1 → cols ≡ t.cols → length xs ≡ t.cols → new ≡ t.numbers ++ xs →
    IsRowPushed (matrix_of_numbers t) (matrix_of_numbers (record { rows = rows; cols = cols; numbers = new }))
    (λ j. get_or xs j 0)
numbers_pushed t rows cols new xs full is_rows is_cols sized is_new = record {
  rows = is_rows;
  cols = is_cols;
  pushed = λ j l.
      let at : t.rows * cols + j ≡ length t.numbers + j = rw is_cols (omega (arith, full)) in
      ap (λ m. get_or new m 0) at
      ∙ ap (λ w. get_or w (length t.numbers + j) 0) is_new
      ∙ get_or-append-add t.numbers xs j 0;
  others = λ i j k l.
      let inside : i * t.cols + j < t.cols * t.rows = mul-add-lt i t.cols j t.rows k l in
      let before : i * t.cols + j < length t.numbers = omega (arith, full, inside) in
      ap (λ w. get_or new (i * w + j) 0) is_cols
      ∙ ap (λ w. get_or w (i * t.cols + j) 0) is_new
      ∙ get_or_append_left t.numbers xs 0 (i * t.cols + j) before;
}

-- entries that were appended are the new last row
pub entries_pushed : (t u : EntryTable) (v : List Entry) → u.cols ≡ t.cols → u.rows ≡ t.rows ++ v ∷ [] →
    IsRowPushed (matrix_of_entries t) (matrix_of_entries u) (number_at v)
entries_pushed t u v is_cols is_rows = record {
  rows = ap length is_rows ∙ length-append t.rows (v ∷ []);
  cols = is_cols;
  pushed = λ j l.
      ap (λ xs. number_at (get_or xs (length t.rows) []) j) is_rows
      ∙ ap (λ es. number_at es j) (get_or_push t.rows v [] (length t.rows) refl);
  others = λ i j k l.
      ap (λ xs. number_at (get_or xs i []) j) is_rows
      ∙ ap (λ es. number_at es j) (get_or_append_left t.rows (v ∷ []) [] i k);
}

-- a row that was appended in memory
pub table_pushed : (t : EntryTable) (cols : ℕ) (rows new : List (SmallVec Entry)) (e : SmallVec Entry)
    (v : List Entry) → record { cols = cols; rows = map entries_of rows } ≡ t → new ≡ rows ++ e ∷ [] → e.items ≡ v →
    IsRowPushed (matrix_of_entries t) (matrix_of_entries (record { cols = cols; rows = map entries_of new }))
    (number_at v)
table_pushed t cols rows new e v seen is_new is_v =
    entries_pushed t (record { cols = cols; rows = map entries_of new }) v
    (ap (λ (u : EntryTable). u.cols) seen)
    (ap (map entries_of) is_new
    ∙ map-append entries_of rows (e ∷ [])
    ∙ ap₂ (λ (xs : List (List Entry)) x. xs ++ x ∷ []) (ap (λ (u : EntryTable). u.rows) seen) is_v)

-- and what they are the entries of
pub row_pushed_as : (old new : Matrix) (row other : ℕ → ℕ) → ((j : ℕ) → j < old.cols → row j ≡ other j) →
    IsRowPushed old new row → IsRowPushed old new other
row_pushed_as old new row other same h = record {
  rows = h.rows;
  cols = h.cols;
  pushed = λ j l. h.pushed j l ∙ same j l;
  others = h.others;
}

-- a row of the table is a row in memory
pub row_within : (t : EntryTable) (cols : ℕ) (rows : List (SmallVec Entry)) (i : ℕ) →
    record { cols = cols; rows = map entries_of rows } ≡ t → i < length t.rows → i < length rows
row_within t cols rows i seen below =
    let same : length t.rows ≡ length rows = ap (λ u. length u.rows) (sym seen) ∙ length-map rows entries_of in
    omega arith

-- what stands among the entries of a row
pub entry_is : (t : EntryTable) (cols : ℕ) (rows : List (SmallVec Entry)) (i : ℕ) (row : SmallVec Entry) (j number : ℕ)
    → record { cols = cols; rows = map entries_of rows } ≡ t → i < length t.rows → row ≡ get_or rows i row →
    number ≡ number_at row.items j → number ≡ (matrix_of_entries t).entry i j
entry_is t cols rows i row j number seen below is_row is_number =
    let within : i < length rows = row_within t cols rows i seen below in
    let entries : get_or (map entries_of rows) i [] ≡ row.items = get_or-map entries_of rows i row [] within
    ∙ ap entries_of (sym is_row) in
    is_number ∙ ap (λ es. number_at es j) (sym entries) ∙ ap (λ (u : EntryTable). (matrix_of_entries u).entry i j) seen
