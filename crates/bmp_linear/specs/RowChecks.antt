-- The comparisons of `check_combination` and `check_dual`.
--   ComparesCombination p a c target r    in a column, the combination c of the rows with the target
--   ComparesDual p a form own r           on a row, the form with 1 at the row `own` and 0 at the others
use Rattle.std.specs.Prelude.{◌≡◌, ℕ, ◌%◌, ◌<◌, List}
use Rattle.bmp_math.specs.Vectors.{unit}
use Rattle.bmp_math.specs.Matrices.{Matrix, combination, image}
use Rattle.bmp_linear.specs.declared.vector.Entry.{Entry}
use Rattle.bmp_linear.specs.declared.fault.RowFault.{RowFault}
use Rattle.bmp_linear.specs.SparseVectors.{number_at}

pub record ComparesCombination (p : ℕ) (a : Matrix) (c target : List Entry) (r : RowFault) : Type 0 where
  pub index_is : r.index ≡ 0
  pub column : r.place < a.cols
  pub left_is : r.left ≡ combination (number_at c) a.entry a.rows r.place % p
  pub right_is : r.right ≡ number_at target r.place

pub record ComparesDual (p : ℕ) (a : Matrix) (form : List Entry) (own : ℕ) (r : RowFault) : Type 0 where
  pub index_is : r.index ≡ own
  pub row : r.place < a.rows
  pub left_is : r.left ≡ image a (number_at form) r.place % p
  pub right_is : r.right ≡ unit own r.place
