-- Matrices of six by six entries, row by row.
--   cell entries i j         the entry at row i and column j
--   image entries v          what the matrix makes of the vector v
--   product_cell x y i j     the entry of the product of two matrices
--   HasColumns map entries   column j is what the map makes of the unit vector j
--   HasSmallCells entries    each entry is from -32 to 32
use Rattle.std.specs.Prelude.{◌≡◌, ℕ, ◌+◌, ◌*◌, ◌<◌, List, ℤ, pos, ◌*ℤ◌, slice_index_or}
use Rattle.bmp_math.specs.Integers.{IsWithin}
use Rattle.bmp_math.specs.IntegerSums.{integer_sum, integer_unit}
use Rattle.bmp_roots.specs.RootPairs.{Vector}

abbrev pub cell : List ℤ → ℕ → ℕ → ℤ
cell entries i j = slice_index_or entries (i * 6 + j) (pos 0)

-- coordinate i of what the matrix makes of a vector
abbrev pub image : List ℤ → Vector → Vector
image entries v i = integer_sum (λ l. v l *ℤ cell entries i l) 6

abbrev pub product_cell : List ℤ → List ℤ → ℕ → ℕ → ℤ
product_cell x y i j = integer_sum (λ l. cell x i l *ℤ cell y l j) 6

abbrev pub HasColumns : (Vector → Vector) → List ℤ → Type 0
HasColumns map entries = (i j : ℕ) → i < 6 → j < 6 → cell entries i j ≡ map (integer_unit j) i

abbrev pub HasSmallCells : List ℤ → Type 0
HasSmallCells entries = (i j : ℕ) → i < 6 → j < 6 → IsWithin 32 (cell entries i j)
