-- A write to one coordinate.
use Rattle.std.proofs.Common.{◌≡◌, ℕ, ◌<◌, arith, ap, ◌∙◌, inl, inr, ℤ, pos, ◌-ℤ◌, ◌*ℤ◌, List, length, set, get_or, get_or-set_same, get_or-set_other}
use Rattle.std.proofs.Math.Path.{fun_ext}
use Rattle.std.proofs.lemmas.Bool.{cases_eq}
use Rattle.std.proofs.lemmas.Int.{ints}
use Rattle.bmp_math.specs.IntegerSums.{integer_unit}
use Rattle.bmp_roots.specs.RootPairs.{minus_times}
use Rattle.bmp_math.proofs.IntegerSumLemmas.{unit_at, unit_off}
use Rattle.bmp_roots.specs.Pairs.{coordinates}

pub lowered_is : (xs : List ℤ) (k : ℕ) (x value : ℤ) → k < length xs → x ≡ coordinates xs k -ℤ value
    → coordinates (set xs k x) ≡ minus_times (coordinates xs) value (integer_unit k)
lowered_is xs k x value l e = fun_ext (λ j.
    elim (cases_eq j k) [
      | inl same ↦
          let here : get_or (set xs k x) j (pos 0) ≡ x = rw same (get_or-set_same xs k x (pos 0) l) in
          let one : integer_unit k j ≡ pos 1 = ap (λ i. integer_unit k i) same ∙ unit_at k in
          let old : get_or xs j (pos 0) ≡ get_or xs k (pos 0) = ap (λ i. get_or xs i (pos 0)) same in
          omega (arith, ints, ap (λ z. value *ℤ z) one, here, old, e)
      | inr apart ↦
          let there : get_or (set xs k x) j (pos 0) ≡ get_or xs j (pos 0) = get_or-set_other xs k j x (pos 0) apart in
          let none : integer_unit k j ≡ pos 0 = unit_off k j apart in
          omega (arith, ints, ap (λ z. value *ℤ z) none, there)
    ])
