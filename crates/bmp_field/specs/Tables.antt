-- What a field keeps so as not to divide.
--   IsReciprocal p m        m is 2^18 / p, rounded up, and one more where p divides 2^18
--   HoldsInverses p list    at each place below p but 0 stands the inverse of that number modulo p
use Rattle.std.specs.Prelude.{◌≡◌, ◌≢◌, ℕ, ◌+◌, ◌*◌, ◌%◌, ◌<◌, ◌≤◌, List, slice_index}

pub record IsReciprocal (p m : ℕ) : Type 0 where
  pub above : 262144 < p * m
  pub within : p * m ≤ 262144 + p

pub record IsInverse (p a b : ℕ) : Type 0 where
  pub below : b < p
  pub product : (a * b) % p ≡ 1

abbrev pub HoldsInverses : ℕ → List ℕ → Type 0
HoldsInverses p list = (a : ℕ) → a < p → a ≢ 0 → IsInverse p a (slice_index list a)
