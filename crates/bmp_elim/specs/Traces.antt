-- What leads from rows to changed rows.
--   IsTrace p old new t                     t is square, times the old rows it gives the new ones, and it sends only 0
--                                           to 0
--   HasTrace p old new                      some such trace leads from the old rows to the new ones
--   AreChangedAlike p a new_a t new_t       one trace leads from a to new_a and from t to new_t
--   AreUnits n m t                          the rows are the first n unit vectors of m numbers
use Rattle.std.specs.Prelude.{◌≡◌, ℕ, ◌<◌}
use Rattle.bmp_math.specs.Congruences.{SameMod}
use Rattle.bmp_math.specs.Vectors.{SameVector, unit}
use Rattle.bmp_math.specs.Matrices.{Matrix, combination, IsInKernel}

-- t is square, each new row is the combination of the old ones by a row of t, and t sends only 0 to 0
pub record IsTrace (p : ℕ) (old new t : Matrix) : Type 0 where
  pub rows : new.rows ≡ old.rows
  pub cols : new.cols ≡ old.cols
  pub trace_rows : t.rows ≡ old.rows
  pub trace_cols : t.cols ≡ old.rows
  pub gives : (i : ℕ) → i < old.rows → SameVector p old.cols (new.entry i) (combination (t.entry i) old.entry old.rows)
  pub faithful : (y : ℕ → ℕ) → IsInKernel p t y → (k : ℕ) → k < old.rows → SameMod p (y k) 0

pub record HasTrace (p : ℕ) (old new : Matrix) : Type 0 where
  pub trace : Matrix
  pub is_trace : IsTrace p old new trace

pub record AreChangedAlike (p : ℕ) (a new_a t new_t : Matrix) : Type 0 where
  pub trace : Matrix
  pub first : IsTrace p a new_a trace
  pub second : IsTrace p t new_t trace

-- the first n unit vectors of m numbers, in order
pub record AreUnits (n m : ℕ) (t : Matrix) : Type 0 where
  pub rows : t.rows ≡ n
  pub cols : t.cols ≡ m
  pub units : (i k : ℕ) → i < n → k < m → t.entry i k ≡ unit i k
