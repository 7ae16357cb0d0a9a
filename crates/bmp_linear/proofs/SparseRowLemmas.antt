-- A row of sparse rows, as its entries.
use Rattle.std.proofs.Common.{◌≡◌, ℕ, ◌+◌, ◌*◌, ◌%◌, ◌<◌, List, length, get_or, map, sym, ap, ap₂, subst, ◌∙◌, arith}
use Rattle.std.specs.List.{All, sum_by}
use Rattle.smallvec.specs.SmallVec.{SmallVec}
use Rattle.bmp_math.specs.Matrices.{NumbersBelow, image}
use Rattle.bmp_math.proofs.SumLemmas.{sum_below_same}
use Rattle.bmp_linear.specs.declared.vector.Entry.{Entry}
use Rattle.bmp_linear.specs.SparseVectors.{IsSparse, FitsBelow, ValuesBelow, IsSpread, number_at}
use Rattle.bmp_linear.specs.RowTables.{EntryTable, matrix_of_entries, entries_of}
use Rattle.bmp_linear.specs.RowChanges.{HoldsNumbers, IsRowAddedTo, AddsEntries}
use Rattle.bmp_linear.proofs.SparseLemmas.{number_at-own, number_at-below, number_at-past, sum_by-number_at}
use Rattle.bmp_linear.proofs.RowTableLemmas.{entry_is, row_within}

-- what is known of a row's entries
pub record IsSparseRow (p : ℕ) (t : EntryTable) (i : ℕ) (es : List Entry) : Type 0 where
  pub sparse : IsSparse es
  pub fits : FitsBelow es t.cols
  pub values : ValuesBelow es p
  pub same : (j : ℕ) → number_at es j ≡ (matrix_of_entries t).entry i j

pub sparse_row : (p : ℕ) (t : EntryTable) (cols : ℕ) (rows : List (SmallVec Entry)) (i : ℕ) (row : SmallVec Entry)
    (es : List Entry) → record { cols = cols; rows = map entries_of rows } ≡ t → All (λ r. IsSparse r.items) rows →
    All (λ r. FitsBelow r.items cols) rows → i < length t.rows → row ≡ get_or rows i row → es ≡ row.items →
    NumbersBelow p (matrix_of_entries t) → IsSparseRow p t i es
sparse_row p t cols rows i row es seen sparse fit below is_row is_es numbers =
    let within : i < length rows = row_within t cols rows i seen below in
    let its_sparse : IsSparse es =
    subst IsSparse (sym is_es) (subst (λ r. IsSparse r.items) (sym is_row) (sparse i row within)) in
    let its_fit : FitsBelow es t.cols =
    subst (λ n. FitsBelow es n) (ap (λ (u : EntryTable). u.cols) seen)
    (subst (λ v. FitsBelow v cols) (sym is_es)
    (subst (λ r. FitsBelow r.items cols) (sym is_row) (fit i row within))) in
    let its_same : (j : ℕ) → number_at es j ≡ (matrix_of_entries t).entry i j =
    λ j. entry_is t cols rows i row j (number_at es j) seen below is_row (ap (λ v. number_at v j) is_es) in
    record {
      sparse = its_sparse;
      fits = its_fit;
      values = λ k d l.
          let number : (matrix_of_entries t).entry i (get_or es k d).place < p =
          numbers i (get_or es k d).place below (its_fit k d l) in
          subst (λ n. n < p) (sym (its_same (get_or es k d).place) ∙ number_at-own es k d its_sparse.rising l) number;
      same = its_same;
    }

module _ (p : ℕ) (t : EntryTable) (i : ℕ) (es : List Entry) (row : IsSparseRow p t i es) where
  -- the numbers of a vector at the row's places
  pub spread_below : (v : List Entry) (spread : List ℕ) → 0 < p → ValuesBelow v p → IsSpread v t.cols spread →
      (k : ℕ) (d : Entry) → k < length es → get_or spread (get_or es k d).place 0 < p
  spread_below v spread some values is_spread k d l =
      subst (λ n. n < p) (sym (is_spread.same (get_or es k d).place (row.fits k d l)))
      (number_at-below v p (get_or es k d).place some values)

  -- the row times a vector that is spread
  pub row_value : (v : List Entry) (spread : List ℕ) (value : ℕ) → IsSpread v t.cols spread →
      value ≡ sum_by (λ e. e.value * get_or spread e.place 0) es % p →
      value ≡ image (matrix_of_entries t) (number_at v) i % p
  row_value v spread value is_spread is_value =
      is_value
      ∙ ap (λ s. s % p) (sum_by-number_at es t.cols (λ j. get_or spread j 0) row.sparse.rising row.fits
      ∙ sum_below_same (λ j. number_at es j * get_or spread j 0) (λ j. number_at v j * (matrix_of_entries t).entry i j)
      t.cols
      (λ j l. ap₂ (λ x y. x * y) (row.same j) (is_spread.same j l)
      ∙ turned ((matrix_of_entries t).entry i j) (number_at v j)))
    where
      turned : (x y : ℕ) → x * y ≡ y * x
      turned x y = omega arith

  -- the row times a vector, entry by entry
  pub row_product : (v : List Entry) (value : ℕ) → value ≡ sum_by (λ e. e.value * number_at v e.place) es % p →
      value ≡ image (matrix_of_entries t) (number_at v) i % p
  row_product v value is_value =
      is_value
      ∙ ap (λ s. s % p) (sum_by-number_at es t.cols (number_at v) row.sparse.rising row.fits
      ∙ sum_below_same (λ j. number_at es j * number_at v j) (λ j. number_at v j * (matrix_of_entries t).entry i j)
      t.cols
      (λ j l. ap (λ x. x * number_at v j) (row.same j) ∙ turned_row ((matrix_of_entries t).entry i j) (number_at v j)))
    where
      turned_row : (x y : ℕ) → x * y ≡ y * x
      turned_row x y = omega arith

  -- the row's entries added are the row added
  pub row_added : (c : ℕ) (old new : List ℕ) → HoldsNumbers p t.cols old → AddsEntries p c es old new →
      IsRowAddedTo p (matrix_of_entries t) i c old new
  row_added c old new holds adds = record {
    added = λ j l. adds.added j (holds.below j l) ∙ ap (λ x. (get_or old j 0 + c * x) % p) (row.same j);
    others = λ j past. adds.others j
        (number_at-past es j (λ k d l. let here : (get_or es k d).place < t.cols = row.fits k d l in omega arith));
  }
