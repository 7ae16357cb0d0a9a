-- Coordinates of linear forms: six numbers, 0 past the rank. Places count from 0.
--   Fits p r k x              x may stand at place k: below p within the rank r, 0 past it
--   EachFits p r cs           each coordinate fits its place
--   IsFirstMisfit p r cs k    k is the first place whose coordinate does not fit
--   IsZero cs                 each coordinate is 0
--   IsFirstNonzero cs l       l is the first place whose coordinate is not 0
--   IsLeading p r l cs        the coordinates fit, r is at most 6, and l is the first place that is not 0
use Rattle.std.specs.Prelude.{◌≡◌, ◌≢◌, ℕ, ◌<◌, ◌≤◌, List, slice_index}

-- x may stand at place k
abbrev pub Fits : ℕ → ℕ → ℕ → ℕ → Type 0
Fits p r k x = (k < r → x < p) × (r ≤ k → x ≡ 0)

abbrev pub EachFits : ℕ → ℕ → List ℕ → Type 0
EachFits p r coords = (k : ℕ) → Fits p r k (slice_index coords k)

pub record IsFirstMisfit (p r : ℕ) (coords : List ℕ) (k : ℕ) : Type 0 where
  pub place : k < 6
  pub misfit : ¬ Fits p r k (slice_index coords k)
  pub before : (j : ℕ) → j < k → Fits p r j (slice_index coords j)

abbrev pub IsZero : List ℕ → Type 0
IsZero coords = (k : ℕ) → slice_index coords k ≡ 0

pub record IsFirstNonzero (coords : List ℕ) (l : ℕ) : Type 0 where
  pub not_zero : slice_index coords l ≢ 0
  pub before : (k : ℕ) → k < l → slice_index coords k ≡ 0

-- coordinates of a label in r variables whose leading variable stands at place l
pub record IsLeading (p r l : ℕ) (coords : List ℕ) : Type 0 where
  pub here : l < r
  pub rank : r ≤ 6
  pub fits : EachFits p r coords
  pub first : IsFirstNonzero coords l
