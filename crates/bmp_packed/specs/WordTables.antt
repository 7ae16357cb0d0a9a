-- What is seen of packed rows, and the matrix that they stand for.
--   WordTable            rows and columns, and all words row after row
--   row_bit t i j        the bit j of the words of row i
--   HasNoBitsPast t      past the last column each bit of a row's words is 0
--   matrix_of_words t    the number of row i and column j is the bit j of the row's words
use Rattle.std.specs.Prelude.{◌≡◌, ℕ, ◌+◌, ◌*◌, ◌/◌, ◌%◌, ◌<◌, ◌≤◌, List, slice_index}
use Rattle.std.specs.Int.{bit_at}
use Rattle.bmp_math.specs.Matrices.{Matrix}
use Rattle.bmp_packed.specs.Words.{width_of}

pub record WordTable : Type 0 where
  pub rows : ℕ
  pub cols : ℕ
  pub words : List ℕ

abbrev pub row_bit : WordTable → ℕ → ℕ → ℕ
row_bit t i j = bit_at (slice_index t.words (i * width_of t.cols + j / 64)) (j % 64)

-- past the last column each bit of a row's words is 0
abbrev pub HasNoBitsPast : WordTable → Type 0
HasNoBitsPast t = (i j : ℕ) → i < t.rows → t.cols ≤ j → j < 64 * width_of t.cols → row_bit t i j ≡ 0

abbrev pub matrix_of_words : WordTable → Matrix
matrix_of_words t = record { rows = t.rows; cols = t.cols; entry = row_bit t }
