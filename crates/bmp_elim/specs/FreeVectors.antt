-- Vectors with numbers at pivots and at a free place.
--   IsPlacedBelow p ps n P v          v has numbers at the first n of the places ps alone, that of the k-th with P k
--   IsCountBelow ps j n               n of the pivots ps, the first ones, are below j
--   IsFreeVector p a ps free v        v is 1 at the free place, takes its column away at the pivots before it, and is 0
--                                     elsewhere
--   IsBasisBelow p a ps n vs          one for each free place below n, in rising order
use Rattle.std.specs.Prelude.{◌≡◌, ◌≢◌, ℕ, ◌+◌, ◌<◌, ◌≤◌, List, [], length, slice_index, slice_index_or}
use Rattle.bmp_math.specs.Congruences.{SameMod}
use Rattle.bmp_math.specs.Matrices.{Matrix}
use Rattle.bmp_linear.specs.declared.vector.Entry.{Entry}
use Rattle.bmp_linear.specs.SparseVectors.{FitsBelow, ValuesBelow, number_at}
use Rattle.bmp_linear.specs.FreePlaces.{free_places}

-- v has numbers at the first n of the places alone, with P k at the k-th
pub record IsPlacedBelow (p : ℕ) (ps : List ℕ) (n : ℕ) (P : ℕ → ℕ → Type 0) (v : List Entry) : Type 0 where
  pub below : ValuesBelow v p
  pub fits : (m : ℕ) → ((k : ℕ) → k < n → slice_index ps k < m) → FitsBelow v m
  pub at_places : (k : ℕ) → k < n → P k (number_at v (slice_index ps k))
  pub elsewhere : (j : ℕ) → ((k : ℕ) → k < n → slice_index ps k ≢ j) → number_at v j ≡ 0

-- the first n of the pivots are below j, and the others are not
pub record IsCountBelow (ps : List ℕ) (j n : ℕ) : Type 0 where
  pub within : n ≤ length ps
  pub early : (k : ℕ) → k < n → slice_index ps k < j
  pub late : (k : ℕ) → n ≤ k → k < length ps → j ≤ slice_index ps k

-- v is 1 at the free place, takes its column away at the pivots, and is 0 elsewhere
pub record IsFreeVector (p : ℕ) (a : Matrix) (ps : List ℕ) (free : ℕ) (v : List Entry) : Type 0 where
  pub fits : FitsBelow v (free + 1)
  pub below : ValuesBelow v p
  pub at_free : number_at v free ≡ 1
  pub at_pivots : (k : ℕ) → k < length ps → SameMod p (a.entry k free + number_at v (slice_index ps k)) 0
  pub elsewhere : (j : ℕ) → j ≢ free → ((k : ℕ) → k < length ps → slice_index ps k ≢ j) → number_at v j ≡ 0

-- the vectors of the free places below n, in rising order
pub record IsBasisBelow (p : ℕ) (a : Matrix) (ps : List ℕ) (n : ℕ) (vs : List (List Entry)) : Type 0 where
  pub one_for_each : length vs ≡ length (free_places ps n)
  pub vectors : (t : ℕ) → t < length vs →
      IsFreeVector p a ps (slice_index (free_places ps n) t) (slice_index_or vs t [])
