-- The table and the parts of its sums, filled from the greatest vertex down.
--   top_value n cs x                       h_x, from the sums
--   IsFilled m roots list limit low sums parts   the vertices from low on are done, and their terms are in the parts of
--                                                the others
--   HasTooBig m roots list limit x         x is the greatest vertex where a coefficient of h_x passes the limit
--   IsError m roots list limit error       the error says so; want of memory says nothing
use Rattle.std.specs.Prelude.{◌≡◌, ℕ, ◌+◌, ◌-◌, ◌*◌, ◌<◌, ◌≤◌, ◌==◌, if◌then◌else◌, List, length, ℤ}
use Rattle.std.specs.Int.RustNames.{unsigned_abs}
use Rattle.bmp_roots.specs.RootPairs.{CartanMatrix, Vector}
use Rattle.bmp_weyl.specs.declared.elem.Elem.{Elem}
use Rattle.bmp_hecke.specs.Laurents.{Laurent, constant_one}
use Rattle.bmp_kl.specs.Tables.{positive_part, IsTableFrom}
use Rattle.bmp_kl.specs.SumTables.{sum_value}
use Rattle.bmp_kl.specs.Powers.{part_of}
use Rattle.bmp_kl.specs.IntervalBars.{bars_of, counts_of}
use Rattle.bmp_kl.specs.PartLists.{part_value}
use Rattle.bmp_kl.specs.declared.error.KlError.{KlError}
use Rattle.bmp_kl.specs.declared.error.KlError.TheVariants.{TooBig, Memory}

abbrev pub top_value : ℕ → List ℤ → ℕ → Laurent
top_value n cs x e = if x + 1 == n then constant_one e else positive_part (sum_value cs x) e

pub record IsFilled (m : CartanMatrix) (roots : List Vector) (list : List Elem) (limit low : ℕ) (sums parts : List ℤ) :
    Type 0 where
  pub table : IsTableFrom (length list) (bars_of m roots list) low (top_value (length list) sums) (sum_value sums)
  pub within : (x : ℕ) (e : ℤ) → low ≤ x → x < length list → unsigned_abs (top_value (length list) sums x e) ≤ limit
  pub partial : (x d : ℕ) (a : ℤ) → x < low → d ≤ 36
      → part_value parts x d a ≡ part_of (low - 1) (length list) (top_value (length list) sums)
      (counts_of m roots list x) d a
  pub sums_long : length sums ≡ length list * 73
  pub parts_long : length parts ≡ length list * 1369

pub record HasTooBig (m : CartanMatrix) (roots : List Vector) (list : List Elem) (limit x : ℕ) : Type 0 where
  pub h : ℕ → Laurent
  pub q : ℕ → Laurent
  pub table : IsTableFrom (length list) (bars_of m roots list) x h q
  pub vertex : x < length list
  pub exponent : ℤ
  pub more : limit < unsigned_abs (h x exponent)
  pub greatest : (y : ℕ) (e : ℤ) → x < y → y < length list → unsigned_abs (h y e) ≤ limit

abbrev pub IsError : CartanMatrix → List Vector → List Elem → ℕ → KlError → Type 0
IsError m roots list limit (TooBig x) = HasTooBig m roots list limit x
IsError m roots list limit Memory = Unit {0}
