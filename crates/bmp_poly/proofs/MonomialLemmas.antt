-- One exponent more or less.
use Rattle.std.proofs.Common.{◌≡◌, ℕ, zero, suc, ◌+◌, ◌-◌, ◌<◌, ◌≤◌, List, [], ◌∷◌, length, get_or, set, sym, ap, ◌∙◌, arith, get_or-set_same, get_or-set_other, set-set, length-set}
use Rattle.std.proofs.lemmas.List.{set-get_or}
use Rattle.std.proofs.lemmas.List.Sums.{sum_by-set, get_or-le-sum_by}
use Rattle.std.specs.List.{sum}
use Rattle.bmp_math.proofs.SumLemmas.{sum_below-suc}
use Rattle.bmp_poly.specs.Exponents.{IsMonomial, count, place, exponents}
use Rattle.bmp_poly.specs.Forms.{raised, lowered}
use Rattle.bmp_poly.proofs.PlaceLemmas.{tail_monomial, place_below, exponents-place}

-- monomials at one place are one
pub same_place : (w r d : ℕ) (m n : List ℕ) → r ≤ w → IsMonomial w r d m → IsMonomial w r d n → place r m ≡ place r n →
    m ≡ n
same_place w r d m n le h g e = sym (exponents-place w r d m le h) ∙ ap (exponents w r d) e
    ∙ exponents-place w r d n le g

pub raised_monomial : (w r d k : ℕ) (m : List ℕ) → r ≤ w → k < r → IsMonomial w r d m →
    IsMonomial w r (suc d) (raised k m)
raised_monomial w r d k m le l h =
    let long : length m ≡ w = h.long in
    let below : k < length m = omega arith in
    record {
      long = length-set m k (get_or m k 0 + 1) ∙ h.long;
      size = omega (arith, sum_by-set (λ (x : ℕ). x) m k (get_or m k 0 + 1) 0 below, h.size);
      past = λ j g. get_or-set_other m k j (get_or m k 0 + 1) 0 (omega arith) ∙ h.past j g;
    }

pub lowered_monomial : (w r d k : ℕ) (m : List ℕ) → r ≤ w → k < r → 0 < get_or m k 0 → IsMonomial w r (suc d) m →
    IsMonomial w r d (lowered k m)
lowered_monomial w r d k m le l some h =
    let long : length m ≡ w = h.long in
    let below : k < length m = omega arith in
    record {
      long = length-set m k (get_or m k 0 - 1) ∙ h.long;
      size = omega (arith, sum_by-set (λ (x : ℕ). x) m k (get_or m k 0 - 1) 0 below, h.size);
      past = λ j g. get_or-set_other m k j (get_or m k 0 - 1) 0 (omega arith) ∙ h.past j g;
    }

pub lowered_raised : (k : ℕ) (m : List ℕ) → k < length m → lowered k (raised k m) ≡ m
lowered_raised k m l =
    let at : get_or (set m k (get_or m k 0 + 1)) k 0 ≡ get_or m k 0 + 1 = get_or-set_same m k (get_or m k 0 + 1) 0 l in
    let back : get_or (set m k (get_or m k 0 + 1)) k 0 - 1 ≡ get_or m k 0 = omega arith in
    set-set m k (get_or m k 0 + 1) (get_or (set m k (get_or m k 0 + 1)) k 0 - 1) ∙ ap (set m k) back ∙ set-get_or m k 0

pub raised_lowered : (k : ℕ) (m : List ℕ) → k < length m → 0 < get_or m k 0 → raised k (lowered k m) ≡ m
raised_lowered k m l some =
    let at : get_or (set m k (get_or m k 0 - 1)) k 0 ≡ get_or m k 0 - 1 = get_or-set_same m k (get_or m k 0 - 1) 0 l in
    let back : get_or (set m k (get_or m k 0 - 1)) k 0 + 1 ≡ get_or m k 0 = omega arith in
    set-set m k (get_or m k 0 - 1) (get_or (set m k (get_or m k 0 - 1)) k 0 + 1) ∙ ap (set m k) back ∙ set-get_or m k 0

pub exponent_le : (w r d k : ℕ) (m : List ℕ) → r ≤ w → k < r → IsMonomial w r d m → get_or m k 0 ≤ d
exponent_le w r d k m le l h =
    let long : length m ≡ w = h.long in
    let below : k < length m = omega arith in
    omega (arith, get_or-le-sum_by (λ (x : ℕ). x) m k 0 below, h.size)

-- a step at a later variable stands later
pub later_place : (w r d l k : ℕ) (m : List ℕ) → r ≤ w → l < k → k < r → IsMonomial w r d m →
    place r (raised l m) < place r (raised k m)
unfolding place
later_place w zero d l k m le before below h = absurd (omega arith)
later_place w (suc r) d l k [] le before below h = let l : 0 ≡ w = h.long in absurd (omega arith)
later_place zero (suc r) d l k (x ∷ m) le before below h = absurd (omega arith)
later_place (suc w) (suc r) d l zero (x ∷ m) le before below h = absurd (omega arith)
later_place (suc w) (suc r) d zero (suc k) (x ∷ m) le before below h =
    let tail : IsMonomial w r (sum m) m = tail_monomial w r d x m h in
    let up : IsMonomial w r (suc (sum m)) (raised k m) =
    raised_monomial w r (sum m) k m (omega arith) (omega arith) tail in
    rw up.size (omega (arith, sum_below-suc (count r) (sum m), place_below w r (sum m) m (omega arith) tail))
later_place (suc w) (suc r) d (suc l) (suc k) (x ∷ m) le before below h =
    let tail : IsMonomial w r (sum m) m = tail_monomial w r d x m h in
    let up : IsMonomial w r (suc (sum m)) (raised k m) =
    raised_monomial w r (sum m) k m (omega arith) (omega arith) tail in
    let down : IsMonomial w r (suc (sum m)) (raised l m) =
    raised_monomial w r (sum m) l m (omega arith) (omega arith) tail in
    rw (up.size, down.size)
    (omega (arith, later_place w r (sum m) l k m (omega arith) (omega arith) (omega arith) tail))
