-- Numbers modulo p, as natural numbers. Minus is a factor: where p is q + 1, x + q * y is x less y.
--   SameMod p a b    a and b have the same remainder by p
use Rattle.std.specs.Prelude.{◌≡◌, ℕ, ◌%◌}

-- a and b are the same number modulo p
abbrev pub SameMod : ℕ → ℕ → ℕ → Type 0
SameMod p a b = a % p ≡ b % p
