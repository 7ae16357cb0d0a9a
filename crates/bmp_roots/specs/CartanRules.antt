-- What makes a list of numbers a Cartan matrix, and which rule it breaks first.
use Rattle.std.specs.Prelude.{◌≡◌, ◌≢◌, ℕ, ◌+◌, ◌*◌, ◌<◌, ◌≤◌, List, length, ℤ, pos, negsuc, ◌≤ℤ◌}
use Rattle.bmp_roots.specs.RootPairs.{CartanMatrix, entry}
use Rattle.bmp_roots.specs.declared.cartan_matrix.CartanFault.{CartanFault}
use Rattle.bmp_roots.specs.declared.cartan_matrix.CartanFault.TheVariants.{BadRank, BadDiagonal, BadOffDiagonal, UnpairedZero}

abbrev pub matrix_of : List ℤ → ℕ → CartanMatrix
matrix_of rows rank = record { rank = rank; rows = rows }

abbrev pub HasShape : List ℤ → ℕ → Type 0
HasShape rows rank = (1 ≤ rank) × (rank ≤ 6) × (length rows ≡ rank * rank)

abbrev pub HasTwo : CartanMatrix → ℕ → Type 0
HasTwo m i = entry m i i ≡ pos 2

abbrev pub IsInRange : CartanMatrix → ℕ → ℕ → Type 0
IsInRange m i j = i ≢ j → (negsuc 31 ≤ℤ entry m i j) × (entry m i j ≤ℤ pos 0)

abbrev pub HasPairedZero : CartanMatrix → ℕ → ℕ → Type 0
HasPairedZero m i j = entry m i j ≡ pos 0 → entry m j i ≡ pos 0

-- a rule on rows up to the rank, on all places, and on all places before one, row by row
abbrev pub AllRows : CartanMatrix → (ℕ → Type 0) → Type 0
AllRows m P = (i : ℕ) → i < m.rank → P i

abbrev pub AllPlaces : CartanMatrix → (ℕ → ℕ → Type 0) → Type 0
AllPlaces m P = (i j : ℕ) → i < m.rank → j < m.rank → P i j

pub record IsFirstPlace (m : CartanMatrix) (P : ℕ → ℕ → Type 0) (i j : ℕ) : Type 0 where
  pub row : i < m.rank
  pub column : j < m.rank
  pub broken : P i j → ⊥
  pub rows_before : (k l : ℕ) → k < i → l < m.rank → P k l
  pub places_before : (l : ℕ) → l < j → P i l

-- the first place of row i
pub record IsFirstIn (m : CartanMatrix) (P : ℕ → ℕ → Type 0) (i j : ℕ) : Type 0 where
  pub column : j < m.rank
  pub broken : P i j → ⊥
  pub before : (l : ℕ) → l < j → P i l

pub record IsFirstRow (m : CartanMatrix) (P : ℕ → Type 0) (i : ℕ) : Type 0 where
  pub row : i < m.rank
  pub broken : P i → ⊥
  pub before : (k : ℕ) → k < i → P k

-- numbers in a fault begin at 1
abbrev pub BreaksFirst : List ℤ → ℕ → CartanFault → Type 0
BreaksFirst rows rank BadRank = HasShape rows rank → ⊥
BreaksFirst rows rank (BadDiagonal i) = let m = matrix_of rows rank in
    HasShape rows rank × ((k : ℕ) × (i ≡ k + 1) × IsFirstRow m (HasTwo m) k)
BreaksFirst rows rank (BadOffDiagonal i j) = let m = matrix_of rows rank in
    HasShape rows rank × AllRows m (HasTwo m) ×
    ((k l : ℕ) × (i ≡ k + 1) × (j ≡ l + 1) × IsFirstPlace m (IsInRange m) k l)
BreaksFirst rows rank (UnpairedZero i j) = let m = matrix_of rows rank in
    HasShape rows rank × AllRows m (HasTwo m) × AllPlaces m (IsInRange m) ×
    ((k l : ℕ) × (i ≡ k + 1) × (j ≡ l + 1) × IsFirstPlace m (HasPairedZero m) k l)
