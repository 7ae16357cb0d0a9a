-- Matrices of maps, column after column. In the order to read:
--   HasColumns rows n number old new   new is old and behind it n columns, each of as many numbers as there are rows:
--                                      the number in row i of column j is number j i
--   HasColumnsOf a numbers             the numbers are those of the matrix a
--   matrix_of_map p A B map d          what the map from A to B does in degree d: a row for each coordinate of B, a
--                                      column for each of A
use Rattle.std.specs.Prelude.{◌≡◌, ℕ, ◌+◌, ◌*◌, ◌%◌, ◌<◌, List, [], length, slice_index}
use Rattle.bmp_math.specs.Vectors.{unit}
use Rattle.bmp_math.specs.Matrices.{Matrix}
use Rattle.bmp_graded.specs.Graded.{Graded}

pub record HasColumns (rows n : ℕ) (number : ℕ → ℕ → ℕ) (old new : List ℕ) : Type 0 where
  pub sized : length new ≡ length old + n * rows
  pub kept : (j : ℕ) → j < length old → slice_index new j ≡ slice_index old j
  pub each : (j i : ℕ) → j < n → i < rows → slice_index new (length old + (j * rows + i)) ≡ number j i

abbrev pub HasColumnsOf : Matrix → List ℕ → Type 0
HasColumnsOf a numbers = HasColumns a.rows a.cols (λ j i. a.entry i j) [] numbers

abbrev pub matrix_of_map : ℕ → Graded → Graded → (ℕ → (ℕ → ℕ) → ℕ → ℕ) → ℕ → Matrix
matrix_of_map p A B map d = record { rows = B.dim d; cols = A.dim d; entry = λ i j. map d (unit j) i % p }
