-- Places and monomials determine each other.
use Rattle.std.proofs.Common.{◌≡◌, ℕ, zero, suc, ◌+◌, ◌-◌, ◌<◌, ◌≤◌, leb, leb-true, leb-false, List, [], ◌∷◌, length, get_or, refl, sym, ap, ap₂, ◌∙◌, inl, inr, arith}
use Rattle.std.proofs.lemmas.Bool.{cases_eq, cases_Bool, cond-true, cond-false, lt-leb, le-leb}
use Rattle.std.proofs.lemmas.List.Sums.{sum_by-cons}
use Rattle.std.specs.List.{sum}
use Rattle.bmp_math.specs.Sums.{sum_below}
use Rattle.bmp_math.proofs.SumLemmas.{sum_below-zero, sum_below-suc, sum_below_rises}
use Rattle.bmp_poly.specs.Exponents.{IsMonomial, count, place, level, zeros, exponents}

pub sum-cons : (x : ℕ) (m : List ℕ) → sum (x ∷ m) ≡ x + sum m
sum-cons x m = sum_by-cons (λ y. y) x m

pub level_at : (f : ℕ → ℕ) (d j i : ℕ) → j ≤ d → i < f j → level f (sum_below f j + i) d ≡ j
unfolding level
level_at f zero j i l h = omega arith
level_at f (suc d) j i l h =
    elim (cases_eq j (suc d)) [
      | inl same ↦ cond-true {A = ℕ} (leb (sum_below f (suc d)) (sum_below f j + i)) (suc d)
          (level f (sum_below f j + i) d)
          (le-leb (sum_below f (suc d)) (sum_below f j + i)
          (let e : sum_below f (suc d) ≡ sum_below f j = ap (sum_below f) (sym same) in omega arith)) ∙ sym same
      | inr other ↦
          let rises : sum_below f (suc j) ≤ sum_below f (suc d) = sum_below_rises f (suc j) (suc d) (omega arith) in
          cond-false {A = ℕ} (leb (sum_below f (suc d)) (sum_below f j + i)) (suc d) (level f (sum_below f j + i) d)
          (lt-leb (sum_below f (suc d)) (sum_below f j + i) (omega (arith, sum_below-suc f j)))
          ∙ level_at f d j i (omega arith) h
    ]

pub record IsLevel (f : ℕ → ℕ) (d i j : ℕ) : Type 0 where
  pub most : j ≤ d
  pub from : sum_below f j ≤ i
  pub to : i < sum_below f j + f j

pub level_is : (f : ℕ → ℕ) (d i : ℕ) → i < sum_below f (suc d) → IsLevel f d i (level f i d)
unfolding level
level_is f zero i h =
    record { most = omega arith; from = omega (arith, sum_below-zero f); to = omega (arith, sum_below-suc f 0) }
level_is f (suc d) i h =
    elim (cases_Bool (leb (sum_below f (suc d)) i)) [
      | inl here ↦ rw (cond-true {A = ℕ} (leb (sum_below f (suc d)) i) (suc d) (level f i d) here)
          (record {
            most = omega arith;
            from = leb-true (sum_below f (suc d)) i here;
            to = omega (arith, sum_below-suc f (suc d));
          })
      | inr below ↦
          let before : IsLevel f d i (level f i d) = level_is f d i (leb-false (sum_below f (suc d)) i below) in
          rw (cond-false {A = ℕ} (leb (sum_below f (suc d)) i) (suc d) (level f i d) below)
          (record { most = omega (arith, before.most); from = before.from; to = before.to })
    ]

pub length-zeros : (w : ℕ) → length (zeros w) ≡ w
unfolding zeros
length-zeros zero = refl
length-zeros (suc w) = ap suc (length-zeros w)

pub sum-zeros : (w : ℕ) → sum (zeros w) ≡ 0
unfolding zeros
sum-zeros zero = refl
sum-zeros (suc w) = sum-cons 0 (zeros w) ∙ omega (arith, sum-zeros w)

pub zeros_at : (w k : ℕ) → get_or (zeros w) k 0 ≡ 0
unfolding zeros
zeros_at zero k = refl
zeros_at (suc w) zero = refl
zeros_at (suc w) (suc k) = zeros_at w k

pub all_zeros : (m : List ℕ) → ((k : ℕ) → get_or m k 0 ≡ 0) → m ≡ zeros (length m)
unfolding zeros
all_zeros [] h = refl
all_zeros (x ∷ m) h = ap₂ (λ (a : ℕ) (b : List ℕ). a ∷ b) (h 0) (all_zeros m (λ k. h (suc k)))

-- without its first exponent
pub tail_monomial : (w r d x : ℕ) (m : List ℕ) → IsMonomial (suc w) (suc r) d (x ∷ m) → IsMonomial w r (sum m) m
tail_monomial w r d x m h =
    record {
      long = let l : suc (length m) ≡ suc w = h.long in omega arith;
      size = refl;
      past = λ k l. h.past (suc k) (omega arith);
    }

pub place_below : (w r d : ℕ) (m : List ℕ) → r ≤ w → IsMonomial w r d m → place r m < count r d
unfolding place count
place_below w zero d m le h =
    let none : m ≡ zeros (length m) = all_zeros m (λ k. h.past k (omega arith)) in
    let empty : d ≡ 0 = sym h.size ∙ ap sum none ∙ sum-zeros (length m) in
    rw empty (omega arith)
place_below w (suc r) d [] le h = let l : 0 ≡ w = h.long in absurd (omega arith)
place_below zero (suc r) d (x ∷ m) le h = absurd (omega arith)
place_below (suc w) (suc r) d (x ∷ m) le h =
    let rest : place r m < count r (sum m) = place_below w r (sum m) m (omega arith) (tail_monomial w r d x m h) in
    let size : x + sum m ≡ d = sym (sum-cons x m) ∙ h.size in
    let rises : sum_below (count r) (suc (sum m)) ≤ sum_below (count r) (suc d) =
    sum_below_rises (count r) (suc (sum m)) (suc d) (omega arith) in
    omega (arith, sum_below-suc (count r) (sum m))

-- the monomial at its own place
pub exponents-place : (w r d : ℕ) (m : List ℕ) → r ≤ w → IsMonomial w r d m → exponents w r d (place r m) ≡ m
unfolding place exponents
exponents-place w zero d m le h = ap zeros (sym h.long) ∙ sym (all_zeros m (λ k. h.past k (omega arith)))
exponents-place w (suc r) d [] le h = let l : 0 ≡ w = h.long in absurd (omega arith)
exponents-place zero (suc r) d (x ∷ m) le h = absurd (omega arith)
exponents-place (suc w) (suc r) d (x ∷ m) le h =
    let tail : IsMonomial w r (sum m) m = tail_monomial w r d x m h in
    let size : x + sum m ≡ d = sym (sum-cons x m) ∙ h.size in
    let at : level (count r) (sum_below (count r) (sum m) + place r m) d ≡ sum m =
    level_at (count r) d (sum m) (place r m) (omega arith) (place_below w r (sum m) m (omega arith) tail) in
    let first : d - sum m ≡ x = omega arith in
    let inner : (sum_below (count r) (sum m) + place r m) - sum_below (count r) (sum m) ≡ place r m = omega arith in
    rw (at, first, inner) (ap (λ (b : List ℕ). x ∷ b) (exponents-place w r (sum m) m (omega arith) tail))

-- the list at a place is a monomial, and stands there
pub record StandsAt (w r d i : ℕ) (m : List ℕ) : Type 0 where
  pub monomial : IsMonomial w r d m
  pub place_is : place r m ≡ i

pub exponents_stand : (w r d i : ℕ) → r ≤ w → i < count r d → StandsAt w r d i (exponents w r d i)
unfolding place exponents count
exponents_stand w zero zero i le h =
    record {
      monomial = record { long = length-zeros w; size = sum-zeros w; past = λ k l. zeros_at w k };
      place_is = omega arith;
    }
exponents_stand w zero (suc d) i le h = absurd (omega arith)
exponents_stand zero (suc r) d i le h = absurd (omega arith)
exponents_stand (suc w) (suc r) d i le h =
    let j = level (count r) i d in
    let at : IsLevel (count r) d i (level (count r) i d) = level_is (count r) d i h in
    let rest : StandsAt w r j (i - sum_below (count r) j) (exponents w r j (i - sum_below (count r) j)) =
    exponents_stand w r j (i - sum_below (count r) j) (omega arith) (omega arith) in
    record {
      monomial = record {
        long = ap suc rest.monomial.long;
        size = sum-cons (d - j) (exponents w r j (i - sum_below (count r) j))
            ∙ omega (arith, rest.monomial.size, at.most);
        past = λ k. elim k as (λ k. suc r ≤ k → get_or ((d - j) ∷ exponents w r j (i - sum_below (count r) j)) k 0 ≡ 0)
            [ zero ↦ λ l. absurd (omega arith) | suc k ↦ λ l. rest.monomial.past k (omega arith) ];
      };
      place_is = rw rest.monomial.size (omega (arith, rest.place_is));
    }
