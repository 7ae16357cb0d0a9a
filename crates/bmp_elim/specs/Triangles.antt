-- A lower triangular square of numbers.
--   TriangleTable               how many rows, and the numbers row after row, of which row k has k + 1
--   row_start k                 where row k begins, behind 1 + .. + k numbers
--   square_of t                 the square, which is 0 behind its diagonal
--   IsCornered old new row      the square has one row and one column more: the row is given, the column is 0 above it
use Rattle.std.specs.Prelude.{◌≡◌, ℕ, ◌+◌, ◌*◌, ◌/◌, ◌<◌, ◌≤◌, List, slice_index, nat_le, if◌then◌else◌}
use Rattle.bmp_math.specs.Matrices.{Matrix}

pub record TriangleTable : Type 0 where
  pub rows : ℕ
  pub numbers : List ℕ

abbrev pub row_start : ℕ → ℕ
row_start k = (k * (k + 1)) / 2

abbrev pub square_of : TriangleTable → Matrix
square_of t = record {
  rows = t.rows;
  cols = t.rows;
  entry = λ i j. if nat_le j i then slice_index t.numbers (row_start i + j) else 0;
}

-- one row and one column more, and nothing else changed
pub record IsCornered (old new : Matrix) (row : ℕ → ℕ) : Type 0 where
  pub rows : new.rows ≡ old.rows + 1
  pub cols : new.cols ≡ old.cols + 1
  pub pushed : (j : ℕ) → j ≤ old.cols → new.entry old.rows j ≡ row j
  pub others : (i j : ℕ) → i < old.rows → j < old.cols → new.entry i j ≡ old.entry i j
  pub zero_above : (i : ℕ) → i < old.rows → new.entry i old.cols ≡ 0
