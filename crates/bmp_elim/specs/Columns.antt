-- The columns of two matrices, joined, and the pivots among those of the second.
--   IsJoinedColumn p span vectors column v     v is the column of `span` and after it that of `vectors`
--   AreJoinedColumns n span vectors columns    the first n columns of both, joined, as rows
--   AreShifted ps from first qs                the places ps from number `from` on, less `first`
use Rattle.std.specs.Prelude.{◌≡◌, ℕ, ◌+◌, ◌<◌, List, length, slice_index}
use Rattle.bmp_math.specs.Matrices.{Matrix}
use Rattle.bmp_linear.specs.declared.vector.Entry.{Entry}
use Rattle.bmp_linear.specs.SparseVectors.{FitsBelow, ValuesBelow, number_at}

-- v is the column of `span` and after it that of `vectors`
pub record IsJoinedColumn (p : ℕ) (span vectors : Matrix) (column : ℕ) (v : List Entry) : Type 0 where
  pub fits : FitsBelow v (span.rows + vectors.rows)
  pub below : ValuesBelow v p
  pub of_span : (i : ℕ) → i < span.rows → number_at v i ≡ span.entry i column
  pub of_vectors : (i : ℕ) → i < vectors.rows → number_at v (span.rows + i) ≡ vectors.entry i column

-- the first n columns of both, joined, as rows
pub record AreJoinedColumns (n : ℕ) (span vectors columns : Matrix) : Type 0 where
  pub rows : columns.rows ≡ n
  pub cols : columns.cols ≡ span.rows + vectors.rows
  pub of_span : (j i : ℕ) → j < n → i < span.rows → columns.entry j i ≡ span.entry i j
  pub of_vectors : (j i : ℕ) → j < n → i < vectors.rows → columns.entry j (span.rows + i) ≡ vectors.entry i j

-- the places from number `from` on, less `first`
pub record AreShifted (ps : List ℕ) (from first : ℕ) (qs : List ℕ) : Type 0 where
  pub one_for_each : from + length qs ≡ length ps
  pub each : (k : ℕ) → k < length qs → slice_index ps (from + k) ≡ first + slice_index qs k
