-- A row of a matrix as a vector.
--   IsRowVector p a i v    v has the numbers of the row i of a, and they are below p
use Rattle.std.specs.Prelude.{◌≡◌, ℕ, ◌<◌, List}
use Rattle.bmp_math.specs.Matrices.{Matrix}
use Rattle.bmp_linear.specs.declared.vector.Entry.{Entry}
use Rattle.bmp_linear.specs.SparseVectors.{FitsBelow, ValuesBelow, number_at}

-- v has the numbers of the row
pub record IsRowVector (p : ℕ) (a : Matrix) (i : ℕ) (v : List Entry) : Type 0 where
  pub fits : FitsBelow v a.cols
  pub below : ValuesBelow v p
  pub numbers : (j : ℕ) → j < a.cols → number_at v j ≡ a.entry i j
