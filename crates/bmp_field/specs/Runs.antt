-- Runs of numbers, place by place.
--   AreBelow p list               each number is below p
--   IsMultipleAdded p c from old new    c times the numbers `from` were added to the old ones, modulo p
use Rattle.std.specs.Prelude.{◌≡◌, ℕ, ◌+◌, ◌*◌, ◌%◌, ◌<◌, List, length, slice_index}

abbrev pub AreBelow : ℕ → List ℕ → Type 0
AreBelow p list = (j : ℕ) → j < length list → slice_index list j < p

-- c times the numbers `from` were added to the old ones, modulo p
pub record IsMultipleAdded (p c : ℕ) (from old new : List ℕ) : Type 0 where
  pub length_is : length new ≡ length old
  pub added : (j : ℕ) → j < length old → slice_index new j ≡ (slice_index old j + c * slice_index from j) % p
