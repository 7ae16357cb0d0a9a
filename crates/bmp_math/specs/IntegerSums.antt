-- Finite sums of integers, and unit vectors of integers.
--   integer_sum f n     f 0 + .. + f (n - 1), and 0 where n is 0
--   integer_unit k      1 at place k, 0 elsewhere
use Rattle.std.specs.Prelude.{ℕ, zero, suc, ◌==◌, if◌then◌else◌, ℤ, pos, ◌+ℤ◌}

-- f 0 + .. + f (n - 1)
unfoldable pub integer_sum : (ℕ → ℤ) → ℕ → ℤ
integer_sum f zero = pos 0
integer_sum f (suc n) = integer_sum f n +ℤ f n

unfoldable pub integer_unit : ℕ → ℕ → ℤ
integer_unit k j = if j == k then pos 1 else pos 0
