-- Squares of bits.
--   HasBit b x y    the bit of b in row x and column y is set
use Rattle.std.specs.Prelude.{◌≡◌, ℕ, ◌+◌, ◌*◌, ◌/◌, ◌%◌, slice_index}
use Rattle.std.specs.Int.{bit_at}
use Rattle.bmp_graph.specs.declared.bits.BitRows.{BitRows}

-- the bit in row x and column y is set
abbrev pub HasBit : BitRows → ℕ → ℕ → Type 0
HasBit b x y = bit_at (slice_index b.bits.items (x * b.words + y / 64)) (y % 64) ≡ 1
