-- Lists that numbers were appended to.
--   IsAppended is_value num old new n f    new is old with n values appended whose numbers are f 0, .., f (n - 1)
use Rattle.std.specs.Prelude.{◌≡◌, ℕ, ◌+◌, ◌<◌, List, length, All}
use Rattle.bmp_poly.specs.Coefficients.{coefficient}

pub record IsAppended {E : Type 0} (is_value : E → Type 0) (num : E → ℕ) (old new : List E) (n : ℕ) (f : ℕ → ℕ) :
    Type 0 where
  pub sized : length new ≡ length old + n
  pub values : All is_value new
  pub kept : (j : ℕ) → j < length old → coefficient num new j ≡ coefficient num old j
  pub added : (j : ℕ) → j < n → coefficient num new (length old + j) ≡ f j
