-- What a `HeckeElem` is seen as.
--   value_in cs p e              the coefficient at the exponent e of the p-th of the polynomials that a list has
--   value_at cs place e          the same at a place that may be none, where it is 0
--   coefficient_of h             the combination
--   HoldsElements m h            what it lists are elements
--   HasNarrow m n h              its exponents are from -n to n
--   IsLight m w h                each coefficient is from -w to w
--   step_of bar g h k            the product of h with H_k, or with H_k + v - v^-1 where bar is true
--   stepped bar b s t            a coefficient of it
--   place_value f i              the coefficient at the i-th exponent from -72 on
--   row_of f                     the coefficients of f from the exponent -72 to 72
--   IsMoved m k n old new        the first n elements of old, and their products with k, are in new
use Rattle.std.specs.Prelude.{ℕ, ◌+◌, ◌*◌, ◌<◌, ◌≤◌, Bool, true, false, nat_le, if◌then◌else◌, List, length, Option, Some, None, position, ℤ, pos, ◌+ℤ◌, ◌-ℤ◌, neg_ℤ, slice_index_or}
use Rattle.std.specs.Int.RustNames.{unsigned_abs}
use Rattle.bmp_math.specs.Lists.{Member}
use Rattle.bmp_roots.specs.RootPairs.{CartanMatrix}
use Rattle.bmp_weyl.specs.Elements.{IsElement}
use Rattle.bmp_weyl.specs.declared.elem.Elem.{Elem}
use Rattle.bmp_hecke.specs.Laurents.{Laurent, HasSpan, times_difference}
use Rattle.bmp_hecke.specs.Groups.{Group, descends}
use Rattle.bmp_hecke.specs.Bars.{Combination}
use Rattle.bmp_weyl.specs.SimpleProducts.{tabulated, times_simple}
use Rattle.bmp_hecke.specs.ElementSets.{elem_eq}
use Rattle.bmp_hecke.specs.declared.combination.HeckeElem.{HeckeElem}

abbrev pub value_in : List ℤ → ℕ → Laurent
value_in cs p e =
    if nat_le (unsigned_abs e) 72 then slice_index_or cs (p * 145 + unsigned_abs (e +ℤ pos 72)) (pos 0) else pos 0

abbrev pub value_at : List ℤ → Option ℕ → Laurent
value_at cs None e = pos 0
value_at cs (Some p) e = value_in cs p e

-- of a list of elements and a list of their coefficients
abbrev pub combination_of : List Elem → List ℤ → Combination Elem
combination_of keys cs x = value_at cs (position (elem_eq x) keys)

abbrev pub coefficient_of : HeckeElem → Combination Elem
coefficient_of h = combination_of h.elements.keys h.coefficients.items

abbrev pub HoldsElements : CartanMatrix → HeckeElem → Type 0
HoldsElements m h = (x : Elem) → Member x h.elements.keys → IsElement m x

abbrev pub HasNarrow : CartanMatrix → ℕ → HeckeElem → Type 0
HasNarrow m n h = (x : Elem) → IsElement m x → HasSpan n (coefficient_of h x)

abbrev pub IsLight : CartanMatrix → ℕ → HeckeElem → Type 0
IsLight m w h = (x : Elem) (e : ℤ) → IsElement m x → unsigned_abs (coefficient_of h x e) ≤ w

-- a coefficient of a step, from the coefficient at xk and the difference at x
abbrev pub stepped : Bool → Bool → ℤ → ℤ → ℤ
stepped true descends there difference = there +ℤ (if descends then pos 0 else difference)
stepped false descends there difference = there +ℤ (if descends then neg_ℤ difference else pos 0)

abbrev pub step_of : Bool → Group Elem → Combination Elem → ℕ → Combination Elem
step_of bar g h k x e = stepped bar (descends g x k) (h (g.times x k) e) (times_difference (h x) e)

-- the coefficients of one element, from the exponent -72 on
abbrev pub place_value : Laurent → ℕ → ℤ
place_value f i = f (pos i -ℤ pos 72)

abbrev pub row_of : Laurent → List ℤ
row_of f = tabulated 145 (place_value f)

-- the elements of the first n of old, and their products with the simple reflection k, are in new
pub record IsMoved (m : CartanMatrix) (k n : ℕ) (old new : List Elem) : Type 0 where
  pub each : (x : Elem) → Member x new → IsElement m x
  pub kept : (i : ℕ) (d : Elem) → i < n → i < length old → Member (slice_index_or old i d) new
  pub moved : (i : ℕ) (d : Elem) → i < n → i < length old → Member (times_simple m (slice_index_or old i d) k) new
