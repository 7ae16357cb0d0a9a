-- Rows, each seen as the list of its numbers.
--   NumberRows                   columns, and rows of so many numbers
--   matrix_of_rows t             the matrix of the rows
--   IsRowSum p c r v s           the row s is r plus c times v
--   IsRowTimes p c r s           the row s is c times r
--   row_at rs i                  the row number i
--   HaveLength n rs              each row has n numbers
--   HoldsRows p n rs             each row has n numbers, which are below p
--   AreRowsSummedBelow n p from c v rs ss   to each row i below n but `from` c i times v was added
use Rattle.std.specs.Prelude.{◌≡◌, ◌≢◌, ℕ, ◌+◌, ◌*◌, ◌%◌, ◌<◌, ◌≤◌, ◌⊎◌, List, [], length, slice_index, slice_index_or}
use Rattle.bmp_math.specs.Matrices.{Matrix}
use Rattle.bmp_field.specs.Runs.{AreBelow}

pub record NumberRows : Type 0 where
  pub cols : ℕ
  pub rows : List (List ℕ)

abbrev pub row_at : List (List ℕ) → ℕ → List ℕ
row_at rs i = slice_index_or rs i []

abbrev pub matrix_of_rows : NumberRows → Matrix
matrix_of_rows t = record { rows = length t.rows; cols = t.cols; entry = λ i. slice_index (row_at t.rows i) }

-- modulo p
pub record IsRowSum (p c : ℕ) (r : List ℕ) (v : ℕ → ℕ) (s : List ℕ) : Type 0 where
  pub length_is : length s ≡ length r
  pub summed : (j : ℕ) → j < length r → slice_index s j ≡ (slice_index r j + c * v j) % p

-- modulo p
pub record IsRowTimes (p c : ℕ) (r s : List ℕ) : Type 0 where
  pub length_is : length s ≡ length r
  pub multiplied : (j : ℕ) → j < length r → slice_index s j ≡ (c * slice_index r j) % p

abbrev pub HaveLength : ℕ → List (List ℕ) → Type 0
HaveLength n rs = (i : ℕ) → i < length rs → length (row_at rs i) ≡ n

pub record HoldsRows (p n : ℕ) (rs : List (List ℕ)) : Type 0 where
  pub lengths : HaveLength n rs
  pub below : (i : ℕ) → i < length rs → AreBelow p (row_at rs i)

-- modulo p, and the other rows are as before
pub record AreRowsSummedBelow (n p from : ℕ) (c v : ℕ → ℕ) (rs ss : List (List ℕ)) : Type 0 where
  pub count : length ss ≡ length rs
  pub summed : (i : ℕ) → i < n → i < length rs → i ≢ from → IsRowSum p (c i) (row_at rs i) v (row_at ss i)
  pub others : (i : ℕ) → i < length rs → (i ≡ from) ⊎ (n ≤ i) → row_at ss i ≡ row_at rs i
