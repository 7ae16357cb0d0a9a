-- Matrices: two sizes and a function, read below the sizes. A matrix without rows has columns all the same.
--   NumbersBelow p a      each number of a is below p
--   turned a              the rows of a as columns
--   combination c vs n    c 0 * vs 0 + .. + c (n - 1) * vs (n - 1), a vector
--   image a v             what each row of a says of v, a vector
--   IsInKernel p a v      each row of a says 0 of v, modulo p
--   IsIndependent p m vs n    no combination of the first n vectors is 0 at m places modulo p, but that with factors 0
--   SameMatrix a b        equal sizes, and equal numbers below them
use Rattle.std.specs.Prelude.{◌≡◌, ℕ, ◌*◌, ◌<◌}
use Rattle.bmp_math.specs.Sums.{sum_below}
use Rattle.bmp_math.specs.Congruences.{SameMod}
use Rattle.bmp_math.specs.Vectors.{SameVector, dot}

pub record Matrix : Type 0 where
  pub rows : ℕ
  pub cols : ℕ
  pub entry : ℕ → ℕ → ℕ

-- each number of the matrix is below p
abbrev pub NumbersBelow : ℕ → Matrix → Type 0
NumbersBelow p a = (i j : ℕ) → i < a.rows → j < a.cols → a.entry i j < p

abbrev pub turned : Matrix → Matrix
turned a = record { rows = a.cols; cols = a.rows; entry = λ i j. a.entry j i }

-- the combination of the first n of the vectors, with the numbers c
abbrev pub combination : (ℕ → ℕ) → (ℕ → ℕ → ℕ) → ℕ → ℕ → ℕ
combination c vs n j = sum_below (λ i. c i * vs i j) n

-- what row i says of v
abbrev pub image : Matrix → (ℕ → ℕ) → ℕ → ℕ
image a v i = dot a.cols v (a.entry i)

-- each row says 0 of v
abbrev pub IsInKernel : ℕ → Matrix → (ℕ → ℕ) → Type 0
IsInKernel p a v = (i : ℕ) → i < a.rows → SameMod p (image a v i) 0

-- a combination of the first n vectors that is 0 at m places has the factors 0
abbrev pub IsIndependent : ℕ → ℕ → (ℕ → ℕ → ℕ) → ℕ → Type 0
IsIndependent p m vs n = (c : ℕ → ℕ) → SameVector p m (combination c vs n) (λ j. 0) → SameVector p n c (λ i. 0)

-- equal sizes, and equal numbers below them
pub record SameMatrix (a b : Matrix) : Type 0 where
  pub rows : a.rows ≡ b.rows
  pub cols : a.cols ≡ b.cols
  pub entries : (i j : ℕ) → i < b.rows → j < b.cols → a.entry i j ≡ b.entry i j
