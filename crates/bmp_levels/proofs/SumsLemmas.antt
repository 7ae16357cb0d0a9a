-- Sums of multiples of numbers, as they are added.
use Rattle.std.proofs.Common.{◌≡◌, ℕ, ◌+◌, ◌-◌, ◌*◌, ◌%◌, ◌^◌, ◌<◌, ◌≤◌, List, length, get_or, refl, ap, ◌∙◌, inl, inr, arith}
use Rattle.std.proofs.Math.Nat.{mul-le-mul_left}
use Rattle.std.proofs.lemmas.Bool.{cases_lt}
use Rattle.std.proofs.lemmas.List.{get_or_past}
use Rattle.bmp_math.proofs.CongruenceLemmas.{same_add}
use Rattle.bmp_levels.specs.Agreement.{AreWithin}

-- multiples are added to as many sums as there are numbers
module _
    (factor : ℕ) (numbers mid new : List ℕ)
    (added : (j : ℕ) → j < length numbers → get_or new j 0 ≡ get_or mid j 0 + factor * get_or numbers j 0)
    (kept : (j : ℕ) → length numbers ≤ j → get_or new j 0 ≡ get_or mid j 0) where
  grown : (j : ℕ) → get_or new j 0 ≡ get_or mid j 0 + factor * get_or numbers j 0
  grown j = elim (cases_lt j (length numbers)) [
    | inl inside ↦ added j inside
    | inr past ↦ omega (arith, kept j past, ap (λ n. factor * n) (get_or_past numbers j 0 past))
  ]

  pub grown_modulo :
      (p : ℕ) (old : List ℕ) → ((j : ℕ) → j < length old → get_or mid j 0 % p ≡ get_or old j 0 % p) →
      (j : ℕ) → j < length old → get_or new j 0 % p ≡ (get_or old j 0 + factor * get_or numbers j 0) % p
  grown_modulo p old same j inside =
      let t = factor * get_or numbers j 0 in
      ap (λ n. n % p) (grown j) ∙ same_add p (get_or mid j 0) (get_or old j 0) t t (same j inside) refl

  pub grown_within :
      (p room step : ℕ) → step ≡ factor * (p - 1) → 1 ≤ p → ((j : ℕ) → j < length numbers → get_or numbers j 0 < p) →
      AreWithin room mid → room + step < 2 ^ 16 → length new ≡ length mid → AreWithin (room + step) new
  grown_within p room step is some below within small sized = record {
    small = small;
    each = λ j inside.
        let least : get_or numbers j 0 ≤ p - 1 = number_below j in
        omega (
          arith,
          grown j,
          within.each j (omega (arith, inside, sized)),
          mul-le-mul_left factor least,
          is,
        );
  }
    where
      number_below : (j : ℕ) → get_or numbers j 0 ≤ p - 1
      number_below j = elim (cases_lt j (length numbers)) [
        | inl inside ↦ omega (arith, below j inside)
        | inr past ↦ omega (arith, get_or_past numbers j 0 past)
      ]
