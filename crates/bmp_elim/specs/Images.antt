-- What the rows of a trace say of a vector.
--   SaysZeroFrom p t from end b     the rows from `from` on and below `end` say 0 of b
--   SaysOther p t from row b        the row, from `from` on, doesn't
--   IsImage p t b k x               x is the number that row k says of b
--   HasImages p t b ps v            v has at the k-th place what row k says of b, and is 0 elsewhere
use Rattle.std.specs.Prelude.{◌≡◌, ◌≢◌, ℕ, ◌%◌, ◌<◌, ◌≤◌, List, length}
use Rattle.bmp_math.specs.Matrices.{Matrix, image}
use Rattle.bmp_linear.specs.declared.vector.Entry.{Entry}
use Rattle.bmp_elim.specs.FreeVectors.{IsPlacedBelow}

abbrev pub SaysZeroFrom : ℕ → Matrix → ℕ → ℕ → (ℕ → ℕ) → Type 0
SaysZeroFrom p t from end b = (i : ℕ) → from ≤ i → i < end → image t b i % p ≡ 0

pub record SaysOther (p : ℕ) (t : Matrix) (from row : ℕ) (b : ℕ → ℕ) : Type 0 where
  pub late : from ≤ row
  pub within : row < t.rows
  pub not_zero : image t b row % p ≢ 0

abbrev pub IsImage : ℕ → Matrix → (ℕ → ℕ) → ℕ → ℕ → Type 0
IsImage p t b k x = x ≡ image t b k % p

abbrev pub HasImages : ℕ → Matrix → (ℕ → ℕ) → List ℕ → List Entry → Type 0
HasImages p t b ps v = IsPlacedBelow p ps (length ps) (IsImage p t b) v
