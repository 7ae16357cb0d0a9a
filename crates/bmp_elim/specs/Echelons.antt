-- Rows in reduced echelon form.
--   IsReducedBelow n a count pivot   the columns below n are reduced: of the first `count` rows each has a leading 1,
--                                    row k at the place pivot k
--   IsEchelon a pivots               all columns are reduced, and the leading ones stand at the pivots
use Rattle.std.specs.Prelude.{◌≡◌, ◌≢◌, ℕ, ◌<◌, ◌≤◌, List, length, slice_index}
use Rattle.bmp_math.specs.Matrices.{Matrix}

-- the first `count` rows lead with a 1 below n, at rising places, each the only number of its column, and the rows
-- after them are 0 below n
pub record IsReducedBelow (n : ℕ) (a : Matrix) (count : ℕ) (pivot : ℕ → ℕ) : Type 0 where
  pub within : count ≤ a.rows
  pub below : (k : ℕ) → k < count → pivot k < n
  pub rising : (k l : ℕ) → k < l → l < count → pivot k < pivot l
  pub one : (k : ℕ) → k < count → a.entry k (pivot k) ≡ 1
  pub zero_elsewhere : (k i : ℕ) → k < count → i < a.rows → i ≢ k → a.entry i (pivot k) ≡ 0
  pub zero_before : (k j : ℕ) → k < count → j < pivot k → a.entry k j ≡ 0
  pub zero_after : (i j : ℕ) → count ≤ i → i < a.rows → j < n → a.entry i j ≡ 0

abbrev pub IsEchelon : Matrix → List ℕ → Type 0
IsEchelon a pivots = IsReducedBelow a.cols a (length pivots) (slice_index pivots)
