-- The order of blocks by number, for n vertices and degrees up to D: by falling vertex, from n - 2 on, and then by
-- rising degree. In the order to read:
--   block_count n D       how many blocks there are
--   block_vertex n D i    the vertex of the block number i
--   block_degree D i      its degree
--   HasNumber n D x d i   the block of x and d has the number i
--   AreNumbered n D       each block has a number, each number is that of a block, and numbers rise in the order of
--                         blocks
--   BlocksAreNumbered     that is so for all n and D
use Rattle.std.specs.Prelude.{◌≡◌, ℕ, ◌+◌, ◌-◌, ◌*◌, ◌/◌, ◌%◌, ◌<◌, ◌≤◌, ◌↔◌}
use Rattle.bmp_check.specs.Verdicts.{BlockIsBefore}

abbrev pub block_count : ℕ → ℕ → ℕ
block_count n D = (n - 1) * (D + 1)

abbrev pub block_vertex : ℕ → ℕ → ℕ → ℕ
block_vertex n D i = n - 2 - i / (D + 1)

abbrev pub block_degree : ℕ → ℕ → ℕ
block_degree D i = i % (D + 1)

pub record HasNumber (n D x d i : ℕ) : Type 0 where
  pub below : i < block_count n D
  pub vertex : block_vertex n D i ≡ x
  pub degree : block_degree D i ≡ d

pub record AreNumbered (n D : ℕ) : Type 0 where
  pub number : (x d : ℕ) → x + 1 < n → d ≤ D → (i : ℕ) × HasNumber n D x d i
  pub is_block : (i : ℕ) → i < block_count n D → (block_vertex n D i + 1 < n) × (block_degree D i ≤ D)
  pub order : (i j : ℕ) → i < block_count n D → j < block_count n D →
      (i < j) ↔ BlockIsBefore (block_vertex n D i) (block_degree D i) (block_vertex n D j) (block_degree D j)

abbrev pub BlocksAreNumbered : Type 0
BlocksAreNumbered = (n D : ℕ) → AreNumbered n D
