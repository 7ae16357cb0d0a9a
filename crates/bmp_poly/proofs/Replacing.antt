-- The places at which one term is replaced: those of the monomial with a step moved from the leading variable to a
-- later one.
use Rattle.std.proofs.Common.{◌≡◌, ℕ, zero, suc, ◌+◌, ◌-◌, ◌<◌, ◌≤◌, List, [], ◌∷◌, length, get_or, get_or-set_other, take, drop, refl, sym, ap, ◌∙◌, arith}
use Rattle.std.proofs.lemmas.List.{drop-set-lt}
use Rattle.std.proofs.lemmas.List.Sums.{sum_by-set, sum_by-drop_more, sum_by-take-drop}
use Rattle.std.specs.List.{sum}
use Rattle.bmp_math.proofs.SumLemmas.{sum_below-suc}
use Rattle.bmp_poly.specs.Exponents.{IsMonomial, count, place}
use Rattle.bmp_poly.specs.Forms.{raised, lowered}
use Rattle.bmp_poly.proofs.PlaceLemmas.{place_below}
use Rattle.bmp_poly.proofs.MonomialLemmas.{raised_monomial, lowered_monomial, exponent_le, raised_lowered}

pub sum-raised : (k : ℕ) (m : List ℕ) → k < length m → sum (raised k m) ≡ suc (sum m)
sum-raised k m below = omega (arith, sum_by-set (λ (x : ℕ). x) m k (get_or m k 0 + 1) 0 below)

-- a step at the first variable does not move a monomial
place-raised_first : (r x : ℕ) (m : List ℕ) → place (suc r) (raised 0 (x ∷ m)) ≡ place (suc r) (x ∷ m)
unfolding place
place-raised_first r x m = refl

-- from a step at one variable to a step at the next
place-raised : (r k : ℕ) (m : List ℕ) → suc k < r → r ≤ length m →
    place r (raised (suc k) m) ≡ place r (raised k m) + count (r - suc k) (sum (drop (suc k) m))
unfolding place
place-raised zero k m below long = absurd (omega arith)
place-raised (suc r) k [] below long = let l : suc r ≤ 0 = long in absurd (omega arith)
place-raised (suc zero) zero (x ∷ m) below long = absurd (omega arith)
place-raised (suc (suc r)) zero (x ∷ []) below long = let l : suc (suc r) ≤ 1 = long in absurd (omega arith)
place-raised (suc (suc r)) zero (x ∷ y ∷ m) below long =
    let left : suc (suc r) - suc zero ≡ suc r = omega arith in
    rw (left, sum-raised 0 (y ∷ m) (omega arith), place-raised_first r y m)
    (omega (arith, sum_below-suc (count (suc r)) (sum (y ∷ m))))
place-raised (suc r) (suc k) (x ∷ m) below long =
    let left : suc r - suc (suc k) ≡ r - suc k = omega arith in
    let inside : suc r ≤ suc (length m) = long in
    rw (left, sum-raised (suc k) m (omega arith), sum-raised k m (omega arith))
    (omega (arith, place-raised r k m (omega arith) (omega arith)))

-- what is left of a sum after its first terms
pub rest_of_sum : (m : List ℕ) (k j rest total : ℕ) → sum (take j m) + rest ≡ total → sum m ≡ total → j ≡ k →
    rest ≡ sum (drop k m)
rest_of_sum m k j rest total e whole same = let split : sum (take k m) + sum (drop k m) ≡ sum m =
    sum_by-take-drop (λ (x : ℕ). x) m k in let at : sum (take j m) ≡ sum (take k m) = ap (λ i. sum (take i m)) same in
    omega arith

-- where a step of the monomial low stands, and what its later exponents sum to: k is the next variable
pub record StepAt (r : ℕ) (low : List ℕ) (k at rest : ℕ) : Type 0 where
  pub some : 0 < k
  pub at_is : at ≡ place r (raised (k - 1) low)
  pub rest_is : rest ≡ sum (drop k low)

pub record StepMoved (r : ℕ) (low : List ℕ) (k at rest x : ℕ) : Type 0 where
  pub le : x ≤ rest
  pub here : at + count (r - k) rest ≡ place r (raised k low)
  pub next : StepAt r low (k + 1) (at + count (r - k) rest) (rest - x)

pub step_moved : (r k at rest x : ℕ) (low : List ℕ) → k < r → r ≤ length low → x ≡ get_or low k 0 →
    StepAt r low k at rest → StepMoved r low k at rest x
step_moved r zero at rest x low below long read h = absurd (omega (arith, h.some))
step_moved r (suc k) at rest x low below long read h =
    let back : suc k - 1 ≡ k = omega arith in
    let more : suc k + 1 - 1 ≡ suc k = omega arith in
    let at_is : at ≡ place r (raised k low) = rw back at h.at_is in
    let rest_is : rest ≡ sum (drop (suc k) low) = h.rest_is in
    let split : sum (drop (suc k) low) ≡ get_or low (suc k) 0 + sum (drop (suc k + 1) low) =
    sum_by-drop_more (λ (y : ℕ). y) low (suc k) 0 (omega arith) in
    let here : at + count (r - suc k) rest ≡ place r (raised (suc k) low) =
    rw (at_is, rest_is) (sym (place-raised r k low below long)) in
    record {
      le = omega arith;
      here = here;
      next = record { some = omega arith; at_is = rw more here; rest_is = omega arith };
    }

-- the first step: back to the monomial itself
pub step_start : (w r d l at rest : ℕ) (e : List ℕ) → r ≤ w → l < r → IsMonomial w r d e → 0 < get_or e l 0 →
    place r e ≡ at → rest ≡ sum (drop (l + 1) e) → StepAt r (lowered l e) (l + 1) at rest
step_start w r d l at rest e wide below is some stands rest_is =
    let long : length e ≡ w = is.long in
    let back : l + 1 - 1 ≡ l = omega arith in
    record {
      some = omega arith;
      at_is = rw back (sym stands ∙ ap (place r) (sym (raised_lowered l e (omega arith) some)));
      rest_is = rest_is ∙ ap (λ (m : List ℕ). sum m) (sym (drop-set-lt (l + 1) e l (get_or e l 0 - 1) (omega arith)));
    }

-- what a step to the next variable finds: its place, which is below the count, and what is left of the exponents
pub record Moved (r d l k at rest x : ℕ) (e : List ℕ) : Type 0 where
  pub le : x ≤ rest
  pub here : at ≡ place r (raised k (lowered l e))
  pub below : at < count r d
  pub next : StepAt r (lowered l e) (k + 1) at (rest - x)

pub moved : (r d l k at n rest x : ℕ) (e : List ℕ) → r ≤ 6 → l < k → k < r → IsMonomial 6 r d e → 0 < get_or e l 0 →
    StepAt r (lowered l e) k at rest → n ≡ count (r - k) rest → x ≡ get_or e k 0 → Moved r d l k (at + n) rest x e
moved r zero l k at n rest x e rank after below is some h n_is read =
    absurd (omega (arith, exponent_le 6 r 0 l e rank (omega arith) is))
moved r (suc d) l k at n rest x e rank after below is some h n_is read =
    let long : length e ≡ 6 = is.long in
    let low : IsMonomial 6 r d (lowered l e) = lowered_monomial 6 r d l e rank (omega arith) some is in
    let low_long : length (lowered l e) ≡ 6 = low.long in
    let kept : get_or (lowered l e) k 0 ≡ get_or e k 0 = get_or-set_other e l k (get_or e l 0 - 1) 0 (omega arith) in
    let step : StepMoved r (lowered l e) k at rest x =
    step_moved r k at rest x (lowered l e) below (omega arith) (read ∙ sym kept) h in
    rw n_is (record {
      le = step.le;
      here = step.here;
      below = rw step.here
          (place_below 6 r (suc d) (raised k (lowered l e)) rank
          (raised_monomial 6 r d k (lowered l e) rank below low));
      next = step.next;
    })

pub rest_le : (r d l k at rest : ℕ) (e : List ℕ) → r ≤ 6 → l < r → IsMonomial 6 r d e →
    StepAt r (lowered l e) k at rest → rest ≤ d
rest_le r d l k at rest e rank here is h =
    let long : length e ≡ 6 = is.long in
    let split : sum (take k (lowered l e)) + sum (drop k (lowered l e)) ≡ sum (lowered l e) =
    sum_by-take-drop (λ (x : ℕ). x) (lowered l e) k in
    let set_at : sum (lowered l e) + get_or e l 0 ≡ sum e + (get_or e l 0 - 1) =
    sum_by-set (λ (x : ℕ). x) e l (get_or e l 0 - 1) 0 (omega arith) in
    omega (arith, h.rest_is, is.size)
