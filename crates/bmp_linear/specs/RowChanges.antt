-- Rows that became longer or were changed, and rows of numbers that rows are added to.
--   IsRowPushed old new row              the matrix has one row more
--   IsRowAdded p old new into from c     c times the row `from` was added to the row `into`
--   IsRowMultiplied p old new row c      the row was multiplied by c
--   AreRowsExchanged old new i j         the rows i and j changed places
--   AreMultiplesAdded p old new from c   to each other row i the row `from` was added c i times
--   AreMultiplesAddedBelow n p ..        the same to the rows below n
--   HoldsNumbers p n list                the first n of the list are numbers below p
--   IsRowAddedTo p a i c old new         c times row i of a was added to a row of numbers
--   AddsEntries p c v old new            c times a vector was added to a row of numbers
--   IsCombined p a c numbers             the first of the numbers are the combination c of the rows of a
use Rattle.std.specs.Prelude.{◌≡◌, ◌≢◌, ℕ, ◌+◌, ◌*◌, ◌%◌, ◌<◌, ◌≤◌, List, length, slice_index}
use Rattle.bmp_math.specs.Matrices.{Matrix, combination}
use Rattle.bmp_linear.specs.declared.vector.Entry.{Entry}
use Rattle.bmp_linear.specs.SparseVectors.{number_at}

-- one row more, and nothing else changed
pub record IsRowPushed (old new : Matrix) (row : ℕ → ℕ) : Type 0 where
  pub rows : new.rows ≡ old.rows + 1
  pub cols : new.cols ≡ old.cols
  pub pushed : (j : ℕ) → j < old.cols → new.entry old.rows j ≡ row j
  pub others : (i j : ℕ) → i < old.rows → j < old.cols → new.entry i j ≡ old.entry i j

-- c times the row `from` was added to the row `into`, modulo p, and nothing else changed
pub record IsRowAdded (p : ℕ) (old new : Matrix) (into from c : ℕ) : Type 0 where
  pub rows : new.rows ≡ old.rows
  pub cols : new.cols ≡ old.cols
  pub added : (j : ℕ) → j < old.cols → new.entry into j ≡ (old.entry into j + c * old.entry from j) % p
  pub others : (i j : ℕ) → i < old.rows → j < old.cols → i ≢ into → new.entry i j ≡ old.entry i j

-- the row was multiplied by c, modulo p, and nothing else changed
pub record IsRowMultiplied (p : ℕ) (old new : Matrix) (row c : ℕ) : Type 0 where
  pub rows : new.rows ≡ old.rows
  pub cols : new.cols ≡ old.cols
  pub multiplied : (j : ℕ) → j < old.cols → new.entry row j ≡ (c * old.entry row j) % p
  pub others : (i j : ℕ) → i < old.rows → j < old.cols → i ≢ row → new.entry i j ≡ old.entry i j

-- two rows, maybe the same, changed places, and nothing else changed
pub record AreRowsExchanged (old new : Matrix) (first second : ℕ) : Type 0 where
  pub rows : new.rows ≡ old.rows
  pub cols : new.cols ≡ old.cols
  pub at_first : (j : ℕ) → j < old.cols → new.entry first j ≡ old.entry second j
  pub at_second : (j : ℕ) → j < old.cols → new.entry second j ≡ old.entry first j
  pub others : (i j : ℕ) → i < old.rows → j < old.cols → i ≢ first → i ≢ second → new.entry i j ≡ old.entry i j

-- to each row i below n but `from` the row `from` was added c i times, modulo p, and nothing else changed
pub record AreMultiplesAddedBelow (n p : ℕ) (old new : Matrix) (from : ℕ) (c : ℕ → ℕ) : Type 0 where
  pub rows : new.rows ≡ old.rows
  pub cols : new.cols ≡ old.cols
  pub added : (i j : ℕ) → i < n → j < old.cols → i ≢ from →
      new.entry i j ≡ (old.entry i j + c i * old.entry from j) % p
  pub kept : (j : ℕ) → j < old.cols → new.entry from j ≡ old.entry from j
  pub others : (i j : ℕ) → n ≤ i → i < old.rows → j < old.cols → new.entry i j ≡ old.entry i j

abbrev pub AreMultiplesAdded : ℕ → Matrix → Matrix → ℕ → (ℕ → ℕ) → Type 0
AreMultiplesAdded p old new from c = AreMultiplesAddedBelow old.rows p old new from c

-- the first n of the list are numbers below p
pub record HoldsNumbers (p n : ℕ) (list : List ℕ) : Type 0 where
  pub room : n ≤ length list
  pub below : (j : ℕ) → j < n → slice_index list j < p

-- c times row i was added, modulo p, and what stands past the columns is as before
pub record IsRowAddedTo (p : ℕ) (a : Matrix) (i c : ℕ) (old new : List ℕ) : Type 0 where
  pub added : (j : ℕ) → j < a.cols → slice_index new j ≡ (slice_index old j + c * a.entry i j) % p
  pub others : (j : ℕ) → a.cols ≤ j → slice_index new j ≡ slice_index old j

-- c times the numbers of v were added, modulo p, and where these are 0 nothing changed
pub record AddsEntries (p c : ℕ) (v : List Entry) (old new : List ℕ) : Type 0 where
  pub added : (j : ℕ) → slice_index old j < p → slice_index new j ≡ (slice_index old j + c * number_at v j) % p
  pub others : (j : ℕ) → number_at v j ≡ 0 → slice_index new j ≡ slice_index old j

-- the first of the numbers are the combination of the rows, modulo p
abbrev pub IsCombined : ℕ → Matrix → (ℕ → ℕ) → List ℕ → Type 0
IsCombined p a c numbers = (j : ℕ) → j < a.cols → slice_index numbers j ≡ combination c a.entry a.rows j % p
