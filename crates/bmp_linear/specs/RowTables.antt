-- What is seen of rows in memory and of a scratch, and the matrices that rows stand for.
--   NumberTable             rows and columns, and all numbers row after row
--   EntryTable              columns, and the entries of each row
--   Work                    the two rows of a scratch
--   entries_of row          the entries that a row of sparse rows keeps
--   matrix_of_numbers t     the number of row i and column j stands at i * cols + j
--   rows_of n cols list     the matrix of n rows of cols numbers, row after row in the list
--   matrix_of_entries t     the number of row i and column j is that of the row's entries at j
use Rattle.std.specs.Prelude.{ℕ, ◌+◌, ◌*◌, List, [], length, slice_index, slice_index_or}
use Rattle.bmp_math.specs.Matrices.{Matrix}
use Rattle.bmp_linear.specs.declared.vector.Entry.{Entry}
use Rattle.bmp_linear.specs.SparseVectors.{number_at}
use Rattle.smallvec.specs.SmallVec.{SmallVec}

pub record NumberTable : Type 0 where
  pub rows : ℕ
  pub cols : ℕ
  pub numbers : List ℕ

pub record EntryTable : Type 0 where
  pub cols : ℕ
  pub rows : List (List Entry)

pub record Work : Type 0 where
  pub first : List ℕ
  pub second : List ℕ

abbrev pub matrix_of_numbers : NumberTable → Matrix
matrix_of_numbers t = record { rows = t.rows; cols = t.cols; entry = λ i j. slice_index t.numbers (i * t.cols + j) }

abbrev pub rows_of : ℕ → ℕ → List ℕ → Matrix
rows_of n cols list = matrix_of_numbers (record { rows = n; cols = cols; numbers = list })

abbrev pub matrix_of_entries : EntryTable → Matrix
matrix_of_entries t =
    record { rows = length t.rows; cols = t.cols; entry = λ i j. number_at (slice_index_or t.rows i []) j }

-- the entries that a row keeps
abbrev pub entries_of : SmallVec Entry → List Entry
entries_of row = row.items
