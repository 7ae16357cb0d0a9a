-- The places that are no pivots.
--   has_place places j         the place is one of the list
--   free_places pivots n       the places below n that are no pivots, in rising order
--   IsMarked places n marks    below n, the marks are 1 at the places and 0 elsewhere
use Rattle.std.specs.Prelude.{◌≡◌, ℕ, zero, suc, ◌<◌, ◌≤◌, ◌==◌, Bool, List, [], ◌∷◌, ◌++◌, if◌then◌else◌, length, slice_index}
use Rattle.std.specs.List.{list_any}

-- the place is one of the list
abbrev pub has_place : List ℕ → ℕ → Bool
has_place places j = list_any (λ q. q == j) places

-- the places below n that are no pivots, in rising order
abbrev pub free_places : List ℕ → ℕ → List ℕ
free_places pivots zero = []
free_places pivots (suc n) = if has_place pivots n then free_places pivots n else free_places pivots n ++ n ∷ []

-- below n, the marks are 1 at the places and 0 elsewhere
pub record IsMarked (places : List ℕ) (n : ℕ) (marks : List ℕ) : Type 0 where
  pub room : n ≤ length marks
  pub same : (j : ℕ) → j < n → slice_index marks j ≡ (if has_place places j then 1 else 0)
