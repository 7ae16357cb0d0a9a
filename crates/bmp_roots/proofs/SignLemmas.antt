-- Tests of signs, and what they say of the coordinates.
use Rattle.std.proofs.Common.{◌≡◌, ◌≢◌, ℕ, zero, suc, ◌<◌, arith, refl, sym, subst, inl, inr, ◌⊎◌, ℤ, pos, negsuc, ◌≤ℤ◌, ◌<ℤ◌, Bool, true, false, ◌||◌, int_lt}
use Rattle.std.proofs.lemmas.Bool.{cases_eq}
use Rattle.std.proofs.lemmas.Int.{ints}
use Rattle.bmp_roots.specs.RootPairs.{Vector}
use Rattle.bmp_roots.specs.PositiveRoots.{has_negative}

or_true : (a b : Bool) → (a || b) ≡ true → (a ≡ true) ⊎ (b ≡ true)
or_true true b h = inl refl
or_true false b h = inr h

or_right : (a b : Bool) → b ≡ true → (a || b) ≡ true
or_right true b h = refl
or_right false b h = h

or_left : (a b : Bool) → a ≡ true → (a || b) ≡ true
or_left true b h = refl
or_left false b h = cc

below_zero : (z : ℤ) → int_lt z (pos 0) ≡ true → z <ℤ pos 0
below_zero z h = grind (arith, ints)

zero_below : (z : ℤ) → z <ℤ pos 0 → int_lt z (pos 0) ≡ true
zero_below z h = grind (arith, ints)

pub negative_place : (n : ℕ) (v : Vector) → has_negative n v ≡ true → (j : ℕ) × (j < n) × (v j <ℤ pos 0)
unfolding has_negative
negative_place zero v h = absurd (cc)
negative_place (suc n) v h =
    elim (or_true (has_negative n v) (int_lt (v n) (pos 0)) h) [
      | inl k ↦ let r : (j : ℕ) × (j < n) × (v j <ℤ pos 0) = negative_place n v k in (r.0, omega (arith, r.1), r.2)
      | inr k ↦ (n, omega arith, below_zero (v n) k)
    ]

pub place_negative : (n : ℕ) (v : Vector) (j : ℕ) → j < n → v j <ℤ pos 0 → has_negative n v ≡ true
unfolding has_negative
place_negative zero v j l h = absurd (omega arith)
place_negative (suc n) v j l h =
    elim (cases_eq j n) [
      | inl e ↦ or_right (has_negative n v) (int_lt (v n) (pos 0)) (zero_below (v n) (subst (λ i. v i <ℤ pos 0) e h))
      | inr apart ↦ or_left (has_negative n v) (int_lt (v n) (pos 0)) (place_negative n v j (omega arith) h)
    ]

pub not_negative : (n : ℕ) (v : Vector) → has_negative n v ≡ false → (j : ℕ) → j < n → pos 0 ≤ℤ v j
not_negative n v h j l =
    by_sign (v j) (λ below. absurd (let t : has_negative n v ≡ true = place_negative n v j l below in
    true_false (has_negative n v) t h)) (λ k. k)
  where
    true_false : (b : Bool) → b ≡ true → b ≡ false → ⊥
    true_false b p q = cc

    by_sign : (z : ℤ) → (z <ℤ pos 0 → pos 0 ≤ℤ z) → (pos 0 ≤ℤ z → pos 0 ≤ℤ z) → pos 0 ≤ℤ z
    by_sign (pos n) f g = omega (arith, ints)
    by_sign (negsuc n) f g = f (omega (arith, ints))

pub all_not_negative : (n : ℕ) (v : Vector) → ((j : ℕ) → j < n → pos 0 ≤ℤ v j) → has_negative n v ≡ true → ⊥
all_not_negative n v least h =
    let r : (j : ℕ) × (j < n) × (v j <ℤ pos 0) = negative_place n v h in
    let a : pos 0 ≤ℤ v r.0 = least r.0 r.1 in
    let b : v r.0 <ℤ pos 0 = r.2 in
    absurd (omega (arith, ints))

-- a coordinate above 0 away from k, or none
pub search_above : (n k : ℕ) (v : Vector) → ((j : ℕ) × (j < n) × (j ≢ k) × (pos 0 <ℤ v j)) ⊎
    ((j : ℕ) → j < n → j ≢ k → v j ≤ℤ pos 0)
search_above zero k v = inr (λ j l. absurd (omega arith))
search_above (suc n) k v =
    elim (search_above n k v) [
      | inl r ↦ inl (r.0, omega (arith, r.1), r.2, r.3)
      | inr none ↦ elim (cases_eq n k) [
        | inl e ↦ inr (λ j l apart. none j (omega arith) apart)
        | inr away ↦ elim (sign (v n)) [
          | inl above ↦ inl (n, omega arith, away, above)
          | inr flat ↦ inr (λ j l apart. elim (cases_eq j n)
              [ inl e ↦ subst (λ i. v i ≤ℤ pos 0) (sym e) flat | inr other ↦ none j (omega arith) apart ])
        ]
      ]
    ]
  where
    sign : (z : ℤ) → (pos 0 <ℤ z) ⊎ (z ≤ℤ pos 0)
    sign (pos zero) = inr (omega (arith, ints))
    sign (pos (suc n)) = inl (omega (arith, ints))
    sign (negsuc n) = inr (omega (arith, ints))
