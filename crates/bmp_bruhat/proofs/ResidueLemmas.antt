-- Remainders of integers, and the coordinates of a form modulo a number.
use Rattle.std.proofs.Common.{◌≡◌, ℕ, ◌+◌, ◌-◌, ◌*◌, ◌/◌, ◌%◌, ◌<◌, ◌≤◌, Bool, true, false, ℤ, pos, negsuc, ◌*ℤ◌, List, length, get_or, set, arith, sym, ap, subst, ◌∙◌, below_more, length-set}
use Rattle.std.proofs.lemmas.Int.{ints}
use Rattle.std.proofs.lemmas.List.{get_or-set_same, get_or-set_other}
use Rattle.std.specs.Int.{int_rem_euclid}
use lib.IntN.{nat_abs}
use Rattle.bmp_math.specs.Integers.{Divides}
use Rattle.bmp_roots.specs.RootPairs.{CartanMatrix, Vector, RootPair}
use Rattle.bmp_bruhat.specs.Labels.{form_in, IsResidue}

-- the remainder that is not below 0
pub residue_is : (p : ℕ) (z r : ℤ) → 2 ≤ p → r ≡ int_rem_euclid z (pos p) → IsResidue p z (nat_abs r)
residue_is p (pos v) r big is =
    let remainder : nat_abs r ≡ v % p = ap nat_abs is in
    let whole : p * (v / p) + v % p ≡ v = omega arith in
    rw remainder (omega arith, (pos (v / p), omega (arith, ints)))
residue_is p (negsuc v) r big is =
    let remainder : nat_abs r ≡ p - 1 - v % p = ap nat_abs is in
    let whole : p * (v / p) + v % p ≡ v = omega arith in
    let times : pos p *ℤ negsuc (v / p) ≡ negsuc (p * (v / p) + (p - 1)) = omega (arith, ints) in
    rw remainder (omega arith, (negsuc (v / p), omega (arith, ints)))

-- what is 0 modulo p is a multiple of p
pub residue_zero : (p : ℕ) (z : ℤ) → IsResidue p z 0 → Divides p z
residue_zero p z (low, (t, e)) = (t, omega (arith, ints, e))

pub zero_residue : (p : ℕ) (z : ℤ) → 0 < p → Divides p z → IsResidue p z 0
zero_residue p z some (t, e) = (some, (t, omega (arith, ints, e)))

-- forms are made of the root alone
pub form_of_root : (m : CartanMatrix) (weight : Bool) (q p : RootPair) → q.root ≡ p.root →
    form_in m weight q ≡ form_in m weight p
form_of_root m true q p same = ap (λ (b : Vector). form_in m true (record { root = b; coroot = b })) same
form_of_root m false q p same = same

-- the first n numbers of the list are those of the vector modulo p, and the others are 0
pub record HasResidues (p : ℕ) (b : Vector) (n : ℕ) (list : List ℕ) : Type 0 where
  pub six : length list ≡ 6
  pub residue : (j : ℕ) → j < n → IsResidue p (b j) (get_or list j 0)
  pub past : (j : ℕ) → n ≤ j → get_or list j 0 ≡ 0

pub HasResidues-more : (p : ℕ) (b : Vector) (n v : ℕ) (list : List ℕ) → HasResidues p b n list → n < 6 →
    IsResidue p (b n) v
    → HasResidues p b (n + 1) (set list n v)
HasResidues-more p b n v list so_far within is =
    let inside : n < length list = omega (arith, so_far.six) in
    let here : get_or (set list n v) n 0 ≡ v = get_or-set_same list n v 0 inside in
    record {
      six = length-set list n v ∙ so_far.six;
      residue = below_more (λ j. IsResidue p (b j) (get_or (set list n v) j 0)) n
          (λ j h. subst (λ k. IsResidue p (b j) k) (sym (get_or-set_other list n j v 0 (omega arith)))
          (so_far.residue j h))
          (subst (λ k. IsResidue p (b n) k) (sym here) is);
      past = λ j h. get_or-set_other list n j v 0 (omega arith) ∙ so_far.past j (omega arith);
    }
