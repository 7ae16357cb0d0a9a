-- Finite direct sums: lists of modules and lists of elements, one for each.
--   common_rank rs                        the number of variables that all modules have: the first of rs, and 6 where
--                                         there is none
--   FitEach Fits rank ms                  each module fits, and all have one number of variables
--   IsTuple is_element degree d ms es     one element of degree d for each of the modules; d is at most 6
--   joined_coordinates dim coordinate ms es i
--                                         the coordinates of the elements, part after part; the part m has dim m of
--                                         them
use Rattle.std.specs.Prelude.{◌≡◌, ℕ, ◌-◌, ◌<◌, ◌≤◌, nat_lt, if◌then◌else◌, List, [], ◌∷◌, length, All, map}
use Rattle.std.specs.List.{slice_index_or}

unfoldable pub common_rank : List ℕ → ℕ
common_rank [] = 6
common_rank (r ∷ rs) = r

abbrev pub FitEach : {M : Type 0} → (M → Type 0) → (M → ℕ) → List M → Type 0
FitEach Fits rank ms = All (λ m. Fits m × (rank m ≡ common_rank (map rank ms))) ms

pub record IsTuple {M E : Type 0} (is_element : M → E → Type 0) (degree : M → E → ℕ) (d : ℕ) (ms : List M)
    (es : List E) : Type 0 where
  pub small : d ≤ 6
  pub sized : length es ≡ length ms
  pub each : (k : ℕ) (m : M) (e : E) → k < length ms
      → is_element (slice_index_or ms k m) (slice_index_or es k e) ×
      (degree (slice_index_or ms k m) (slice_index_or es k e) ≡ d)

unfoldable pub joined_coordinates : {M E : Type 0} → (M → ℕ) → (M → E → ℕ → ℕ) → List M → List E → ℕ → ℕ
joined_coordinates dim coordinate [] es i = 0
joined_coordinates dim coordinate (m ∷ ms) [] i = 0
joined_coordinates dim coordinate (m ∷ ms) (e ∷ es) i =
    if nat_lt i (dim m) then coordinate m e i else joined_coordinates dim coordinate ms es (i - dim m)
