-- Numbers by vertex and degree. In the order to read:
--   MOST_SIZE           no number is greater; the sum of 4,096 such numbers is below 2^64
--   SizeList            what is seen of a table: its numbers, by vertex and then by degree
--   size_in s x d       the number of the vertex x and the degree d
--   IsSizeList s        the table is full, and within the limits
--   AreSizes s n D f    it has n vertices and the degrees up to D, and its numbers are f x d
--   size_numbers f w k  the first k numbers of such a table, of w degrees
use Rattle.std.specs.Prelude.{◌≡◌, ℕ, ◌+◌, ◌*◌, ◌/◌, ◌%◌, ◌<◌, ◌≤◌, List, length, map, slice_index, All}
use Rattle.std.specs.List.{range_with_len}

-- 255 * 2^44
abbrev pub MOST_SIZE : ℕ
MOST_SIZE = 4486007441326080

pub record SizeList : Type 0 where
  pub vertices : ℕ
  pub width : ℕ
  pub numbers : List ℕ

abbrev pub size_in : SizeList → ℕ → ℕ → ℕ
size_in s x d = slice_index s.numbers (x * s.width + d)

pub record IsSizeList (s : SizeList) : Type 0 where
  pub few : s.vertices ≤ 4096
  pub narrow : s.width ≤ 7
  pub full : length s.numbers ≡ s.vertices * s.width
  pub small : All (λ n. n ≤ MOST_SIZE) s.numbers

pub record AreSizes (s : SizeList) (n D : ℕ) (f : ℕ → ℕ → ℕ) : Type 0 where
  pub vertices : s.vertices ≡ n
  pub width : s.width ≡ D + 1
  pub numbers : (x d : ℕ) → x < n → d ≤ D → size_in s x d ≡ f x d

abbrev pub size_numbers : (ℕ → ℕ → ℕ) → ℕ → ℕ → List ℕ
size_numbers f w k = map (λ i. f (i / w) (i % w)) (range_with_len 0 k)
