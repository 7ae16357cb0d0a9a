-- Bounds on numbers of coordinates.
use Rattle.std.proofs.Common.{◌≡◌, ◌≢◌, ℕ, zero, suc, ◌+◌, ◌-◌, ◌*◌, ◌/◌, ◌%◌, ◌^◌, ◌<◌, ◌≤◌, true, leb, leb-true, List, get_or, arith, refl, sym, ap, ap₂, ◌∙◌, inl, inr}
use Rattle.std.proofs.lemmas.Bool.{cases_Bool, cond-true, cond-false, le-leb, lt-leb, agree_below_at}
use Rattle.bmp_math.specs.Sums.{sum_below}
use Rattle.bmp_math.proofs.SumLemmas.{sum_below-suc, sum_below-zero, sum_below_more}
use Rattle.bmp_poly.specs.Exponents.{count}
use Rattle.bmp_poly.proofs.Scanning.{count_small}
use Rattle.bmp_sheaf.specs.Coordinates.{component_count, stalk_start}

-- in at most 5 variables
pub count_few : (r d : ℕ) → r ≤ 5 → d ≤ 6 → count r d ≤ 255
unfolding sum_below count
count_few r d le small =
    let row : (r * 7 + d) / 7 ≡ r = omega arith in
    let col : (r * 7 + d) % 7 ≡ d = omega arith in
    leb-true (count r d) 255
    (ap₂ (λ a b. leb (count a b) 255) (sym row) (sym col)
    ∙ agree_below_at (λ i. leb (count (i / 7) (i % 7)) 255) (λ i. true) 42 (r * 7 + d) refl (omega arith))

module _ (r : ℕ) (degrees : List ℕ) (d most : ℕ) (bound : (s : ℕ) → s ≤ 6 → count r s ≤ most) (small : d ≤ 6) where
  pub component_most : (e : ℕ) → component_count r d e ≤ most
  component_most e = elim (cases_Bool (leb e d)) [
    | inl within ↦ rw (cond-true {A = ℕ} (leb e d) (count r (d - e)) 0 within) (bound (d - e) (omega arith))
    | inr past ↦ rw (cond-false {A = ℕ} (leb e d) (count r (d - e)) 0 past) (omega arith)
  ]

  pub stalk_start_most : (n : ℕ) → stalk_start r degrees d n ≤ n * most
  stalk_start_most zero = omega (arith, sum_below-zero (λ h. component_count r d (get_or degrees h 0)))
  stalk_start_most (suc n) =
      let one : suc n * most ≡ n * most + most = grind arith in
      omega (
        arith,
        one,
        stalk_start_most n,
        component_most (get_or degrees n 0),
        sum_below-suc (λ h. component_count r d (get_or degrees h 0)) n,
      )

module _ (r : ℕ) (degrees : List ℕ) (d n : ℕ) (few : n < 2 ^ 32) (small : d ≤ 6) where
  pub stalk_start_small : r ≤ 6 → stalk_start r degrees d n ≤ 462 * 2 ^ 32
  stalk_start_small le = omega (arith, stalk_start_most r degrees d 462 (λ s. count_small r s le) small n)

  pub stalk_start_smaller : r ≤ 5 → stalk_start r degrees d n ≤ 255 * 2 ^ 32
  stalk_start_smaller le = omega (arith, stalk_start_most r degrees d 255 (λ s. count_few r s le) small n)
