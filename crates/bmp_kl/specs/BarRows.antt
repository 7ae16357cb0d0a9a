-- Bars in rows of 19 natural numbers, one row for each vertex, one behind the other.
--   behind vs start j                 the number j places behind start
--   row_value vs v j                  the j-th number of the row of vertex v
--   leadings_of m roots list x y j    the coefficient at vertex x and the power len(y) - len(x) - 2 j in the bar of
--                                     vertex y
--   HasLiveRows n vs live        there are n rows, and a row that is not live has zeros alone
--   stepped_row p old v j        a number after a step, where p is the number of the product of v with the simple
--                                reflection
--   IsPairStepped low high n old new   the first n numbers of the rows that begin at low and high are stepped
--   IsRowsStepped x z old new    the rows of x and of its longer product z are stepped
--   IsMatched partners lengths n   products are known both ways, and the later one is longer by one
--   IsSteppedTo partners n x old new   the rows of the pairs with a member below x are stepped, and no others
use Rattle.std.specs.Prelude.{◌≡◌, ◌≢◌, ℕ, ◌+◌, ◌*◌, ◌<◌, ◌≤◌, ◌⊎◌, nat_lt, if◌then◌else◌, Bool, false, List, length, Option, Some, None, slice_index_or}
use Rattle.bmp_roots.specs.RootPairs.{CartanMatrix, Vector}
use Rattle.bmp_weyl.specs.Elements.{element_length}
use Rattle.bmp_weyl.specs.declared.elem.Elem.{Elem}
use Rattle.bmp_hecke.specs.DifferenceBars.{previous}
use Rattle.bmp_hecke.specs.LeadingBars.{leading_steps}
use Rattle.bmp_hecke.specs.WeylGroups.{weyl_group}
use Rattle.bmp_kl.specs.IntervalBars.{vertex_at}

abbrev pub behind : List ℕ → ℕ → ℕ → ℕ
behind vs start j = slice_index_or vs (start + j) 0

abbrev pub row_value : List ℕ → ℕ → ℕ → ℕ
row_value vs v = behind vs (v * 19)

abbrev pub leadings_of : CartanMatrix → List Vector → List Elem → ℕ → ℕ → ℕ → ℕ
leadings_of m roots list x y j =
    leading_steps (weyl_group m roots) (element_length roots (vertex_at m list y)) (vertex_at m list y)
    (vertex_at m list x) j

pub record HasLiveRows (n : ℕ) (vs : List ℕ) (live : List Bool) : Type 0 where
  pub places : length vs ≡ n * 19
  pub as_many : length live ≡ n
  pub dead : (v j : ℕ) → v < n → j < 19 → slice_index_or live v false ≡ false → row_value vs v j ≡ 0

abbrev pub stepped_row : Option ℕ → (ℕ → ℕ → ℕ) → ℕ → ℕ → ℕ
stepped_row None old v j = old v j
stepped_row (Some z) old v j = if nat_lt v z then old v j + previous (old z) j else old z j

pub record IsPairStepped (low high n : ℕ) (old new : List ℕ) : Type 0 where
  pub as_long : length new ≡ length old
  pub lower : (j : ℕ) → j < n → slice_index_or new (low + j) 0
      ≡ slice_index_or old (low + j) 0 + previous (behind old high) j
  pub upper : (j : ℕ) → j < n → slice_index_or new (high + j) 0 ≡ slice_index_or old (low + j) 0
  pub kept : (i : ℕ) → ((j : ℕ) → j < n → i ≢ low + j) → ((j : ℕ) → j < n → i ≢ high + j)
      → slice_index_or new i 0 ≡ slice_index_or old i 0

pub record IsRowsStepped (x z : ℕ) (old new : List ℕ) : Type 0 where
  pub as_long : length new ≡ length old
  pub lower : (j : ℕ) → j < 19 → row_value new x j ≡ row_value old x j + previous (row_value old z) j
  pub upper : (j : ℕ) → j < 19 → row_value new z j ≡ row_value old x j
  pub kept : (v j : ℕ) → j < 19 → v ≢ x → v ≢ z → row_value new v j ≡ row_value old v j

pub record IsMatch (partners : ℕ → Option ℕ) (lengths : List ℕ) (n v z : ℕ) : Type 0 where
  pub inside : z < n
  pub back : partners z ≡ Some v
  pub apart : v ≢ z
  pub longer : v < z → slice_index_or lengths z 0 ≡ slice_index_or lengths v 0 + 1

abbrev pub IsMatched : (ℕ → Option ℕ) → List ℕ → ℕ → Type 0
IsMatched partners lengths n = (v z : ℕ) → v < n → partners v ≡ Some z → IsMatch partners lengths n v z

abbrev pub HasPartnerBelow : (ℕ → Option ℕ) → ℕ → ℕ → Type 0
HasPartnerBelow partners v x = (z : ℕ) × (partners v ≡ Some z) × (z < x)

pub record IsSteppedTo (partners : ℕ → Option ℕ) (n x : ℕ) (old new : List ℕ) : Type 0 where
  pub as_long : length new ≡ length old
  pub done : (v j : ℕ) → v < n → j < 19 → (v < x) ⊎ HasPartnerBelow partners v x
      → row_value new v j ≡ stepped_row (partners v) (row_value old) v j
  pub kept : (v j : ℕ) → v < n → j < 19 → x ≤ v → (HasPartnerBelow partners v x → ⊥) →
      row_value new v j ≡ row_value old v j
