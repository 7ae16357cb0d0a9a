-- What equal matrices share, with the matrices as arguments.
use Rattle.std.proofs.Common.{◌≡◌, ℕ, ◌<◌}
use Rattle.bmp_math.specs.Matrices.{Matrix, NumbersBelow, SameMatrix, image}
use Rattle.bmp_math.proofs.SameMatrices

module _ (a b : Matrix) (same : SameMatrix a b) where
  pub numbers_below_same : (p : ℕ) → NumbersBelow p b → NumbersBelow p a
  numbers_below_same = SameMatrices.numbers_below_same same

  pub image_same : (v : ℕ → ℕ) (i : ℕ) → i < b.rows → image a v i ≡ image b v i
  image_same = SameMatrices.image_same same
