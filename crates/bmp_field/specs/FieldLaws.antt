-- What every field of numbers keeps.
--   FieldLaws size is_value num    the values of a field f are the numbers below size f, of which each but 0 has an
--                                  inverse
use Rattle.std.specs.Prelude.{◌≡◌, ◌≢◌, ℕ, ◌*◌, ◌%◌, ◌<◌, ◌≤◌}

pub record FieldLaws {F E : Type 0} (size : F → ℕ) (is_value : F → E → Type 0) (num : F → E → ℕ) : Type 0 where
  pub at_least_two : (f : F) → 2 ≤ size f
  pub at_most_256 : (f : F) → size f ≤ 256
  pub below_size : (f : F) (a : E) → is_value f a → num f a < size f
  pub same_number : (f : F) (a b : E) → is_value f a → is_value f b → num f a ≡ num f b → a ≡ b
  pub each_number : (f : F) (n : ℕ) → n < size f → (a : E) × (is_value f a) × (num f a ≡ n)
  pub inverse : (f : F) (n : ℕ) → n < size f → n ≢ 0 → (m : ℕ) × (m < size f) × ((n * m) % size f ≡ 1)
