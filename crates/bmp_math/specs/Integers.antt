-- Facts of integers.
--   IsWithin n z     z is from -n to n
--   Divides n z      some integer times n is z
use Rattle.std.specs.Prelude.{◌≡◌, ℕ, ℤ, pos, neg_ℤ, ◌*ℤ◌, ◌≤ℤ◌}

-- z is from -n to n
abbrev pub IsWithin : ℕ → ℤ → Type 0
IsWithin n z = (neg_ℤ (pos n) ≤ℤ z) × (z ≤ℤ pos n)

-- n divides z
abbrev pub Divides : ℕ → ℤ → Type 0
Divides n z = (t : ℤ) × (z ≡ pos n *ℤ t)
