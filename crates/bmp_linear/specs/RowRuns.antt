-- The run of a row, among rows of equally many numbers, in which all of its numbers that aren't 0 stand.
--   matrix_at r numbers           the rows, as a matrix
--   run_place r i                 where the run's columns begin in row i
--   IsRowRun p r numbers          the numbers are below p, and outside of the run its row is 0
--   HasMultiples p r numbers ts   ts has the run times 0, 1 and so on below p, one after the other
--   IsAddedTo p r i c old new     c times the run's row was added to row i, if that is another
--   AreAddedBelow n p r c old new c i times the run's row was added to each other row i below n
use Rattle.std.specs.Prelude.{◌≡◌, ◌≢◌, ℕ, ◌+◌, ◌*◌, ◌%◌, ◌<◌, ◌≤◌, ◌⊎◌, List, length, slice_index}
use Rattle.bmp_math.specs.Matrices.{Matrix, NumbersBelow}
use Rattle.bmp_linear.specs.declared.multiples.RowRun.{RowRun}
use Rattle.bmp_linear.specs.RowChanges.{IsRowAdded, AreMultiplesAddedBelow}
use Rattle.bmp_linear.specs.RowTables.{rows_of}
use Rattle.bmp_linear.specs.Runs.{IsOutside}

abbrev pub matrix_at : RowRun → List ℕ → Matrix
matrix_at r numbers = rows_of r.rows r.cols numbers

abbrev pub run_place : RowRun → ℕ → ℕ
run_place r i = i * r.cols + r.start

pub record IsRowRun (p : ℕ) (r : RowRun) (numbers : List ℕ) : Type 0 where
  pub length_is : length numbers ≡ r.rows * r.cols
  pub row : r.row < r.rows
  pub within : r.start + r.len ≤ r.cols
  pub below : NumbersBelow p (matrix_at r numbers)
  pub zero : (j : ℕ) → j < r.cols → IsOutside r.start r.len j → slice_index numbers (r.row * r.cols + j) ≡ 0

-- c times the run stands from c times its length on, modulo p
pub record HasMultiples (p : ℕ) (r : RowRun) (numbers ts : List ℕ) : Type 0 where
  pub length_is : length ts ≡ p * r.len
  pub multiples : (c j : ℕ) → c < p → j < r.len →
      slice_index ts (c * r.len + j) ≡ (c * slice_index numbers (run_place r r.row + j)) % p

pub record IsAddedTo (p : ℕ) (r : RowRun) (i c : ℕ) (old new : List ℕ) : Type 0 where
  pub length_is : length new ≡ length old
  pub none : (i ≡ r.row) ⊎ (c ≡ 0) → new ≡ old
  pub added : i ≢ r.row → c ≢ 0 → IsRowAdded p (matrix_at r old) (matrix_at r new) i r.row c

pub record AreAddedBelow (n p : ℕ) (r : RowRun) (c : ℕ → ℕ) (old new : List ℕ) : Type 0 where
  pub length_is : length new ≡ length old
  pub added : AreMultiplesAddedBelow n p (matrix_at r old) (matrix_at r new) r.row c
