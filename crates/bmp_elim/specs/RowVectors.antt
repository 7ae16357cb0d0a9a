-- Rows as vectors.
--   AreRowVectors p a from end vs     one for each row from `from` on and below `end`
use Rattle.std.specs.Prelude.{◌≡◌, ℕ, ◌+◌, ◌<◌, List, [], length, slice_index_or}
use Rattle.bmp_math.specs.Matrices.{Matrix}
use Rattle.bmp_linear.specs.declared.vector.Entry.{Entry}
use Rattle.bmp_linear.specs.RowVectors.{IsRowVector}

-- the rows from `from` on and below `end`, each as a vector
pub record AreRowVectors (p : ℕ) (a : Matrix) (from end : ℕ) (vs : List (List Entry)) : Type 0 where
  pub one_for_each : from + length vs ≡ end
  pub each : (k : ℕ) → k < length vs → IsRowVector p a (from + k) (slice_index_or vs k [])
