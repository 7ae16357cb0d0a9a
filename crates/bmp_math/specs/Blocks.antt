-- Numbers in blocks, one block behind the other. Blocks and places count from 0. In the order to read:
--   block_start size b        the place where the block b begins: the sizes of the blocks before it
--   joined size values n k    the number at place k of the first n blocks; block b has the numbers values b 0 .. values
--                             b (size b - 1)
use Rattle.std.specs.Prelude.{ℕ, zero, suc, ◌-◌, nat_le, if◌then◌else◌}
use Rattle.bmp_math.specs.Sums.{sum_below}

abbrev pub block_start : (ℕ → ℕ) → ℕ → ℕ
block_start size b = sum_below size b

-- what stands behind the start of the last block is the last block's
unfoldable pub joined : (ℕ → ℕ) → (ℕ → ℕ → ℕ) → ℕ → ℕ → ℕ
joined size values zero k = 0
joined size values (suc n) k = if nat_le (block_start size n) k then values n (k - block_start size n)
    else joined size values n k
