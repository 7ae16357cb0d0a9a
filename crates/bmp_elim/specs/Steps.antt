-- What the steps of elimination do to rows and to others that are changed alike.
--   IsZeroFrom a from end col                      the rows from `from` on and below `end` are 0 at the column
--   IsFound a from row col                         the row, from `from` on, isn't 0 at the column
--   IsTakenAwayBelow n p a col factors             the factors take away what the rows below n are at the column
--   IsKept p col count a new_a t new_t             changes that keep the columns below col, of rows from `count` on
--   IsColumnCleared p col pivot n a new_a t new_t  the rows below n are 0 at the column but for the pivot's, which is 1
--   IsEliminated p n a new_a t new_t pivots        the columns below n are reduced
use Rattle.std.specs.Prelude.{◌≡◌, ◌≢◌, ℕ, ◌+◌, ◌%◌, ◌<◌, ◌≤◌, List, length, slice_index}
use Rattle.bmp_math.specs.Matrices.{Matrix, NumbersBelow}
use Rattle.bmp_elim.specs.Echelons.{IsReducedBelow}
use Rattle.bmp_elim.specs.Traces.{AreChangedAlike}

-- the rows from `from` on and below `end` are 0 at the column
abbrev pub IsZeroFrom : Matrix → ℕ → ℕ → ℕ → Type 0
IsZeroFrom a from end col = (i : ℕ) → from ≤ i → i < end → a.entry i col ≡ 0

-- the row, from `from` on, isn't 0 at the column
pub record IsFound (a : Matrix) (from row col : ℕ) : Type 0 where
  pub late : from ≤ row
  pub within : row < a.rows
  pub not_zero : a.entry row col ≢ 0

-- each row below n has a factor that takes away what the row is at the column
abbrev pub IsTakenAwayBelow : ℕ → ℕ → Matrix → ℕ → List ℕ → Type 0
IsTakenAwayBelow n p a col factors = (i : ℕ) → i < n → (a.entry i col + slice_index factors i) % p ≡ 0

-- the changes keep what leads to the rows, and the columns below col that are reduced with `count` pivots
pub record IsKept (p col count : ℕ) (a new_a t new_t : Matrix) : Type 0 where
  pub rows : new_a.rows ≡ a.rows
  pub cols : new_a.cols ≡ a.cols
  pub other_rows : new_t.rows ≡ t.rows
  pub numbers : NumbersBelow p new_a
  pub other_numbers : NumbersBelow p new_t
  pub alike : (old_a old_t : Matrix) → AreChangedAlike p old_a a old_t t → AreChangedAlike p old_a new_a old_t new_t
  pub reduced : (pivot : ℕ → ℕ) → IsReducedBelow col a count pivot → IsReducedBelow col new_a count pivot

-- the rows below n are 0 at the column but for the pivot's, which is 1
pub record IsColumnCleared (p col pivot n : ℕ) (a new_a t new_t : Matrix) : Type 0 where
  pub kept : IsKept p col pivot a new_a t new_t
  pub one : new_a.entry pivot col ≡ 1
  pub zero_elsewhere : (i : ℕ) → i < n → i ≢ pivot → new_a.entry i col ≡ 0

-- the columns below n are reduced, with leading ones at the pivots
pub record IsEliminated (p n : ℕ) (a new_a t new_t : Matrix) (pivots : List ℕ) : Type 0 where
  pub alike : AreChangedAlike p a new_a t new_t
  pub reduced : IsReducedBelow n new_a (length pivots) (slice_index pivots)
  pub numbers : NumbersBelow p new_a
  pub other_numbers : NumbersBelow p new_t
