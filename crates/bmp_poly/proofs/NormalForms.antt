-- A polynomial has one normal form, and equal normal forms are congruence.
use Rattle.std.proofs.Common.{◌≡◌, ℕ, zero, suc, ◌+◌, ◌-◌, ◌*◌, ◌%◌, ◌<◌, ◌≤◌, ◌↔◌, List, length, get_or, eqb, refl, sym, ap, ◌∙◌, inl, inr, arith, eq-eqb, ne_eqb, get_or-set_same, get_or-set_other}
use Rattle.std.proofs.lemmas.Bool.{cases_eq, cond-true, cond-false}
use Rattle.bmp_math.specs.Congruences.{SameMod}
use Rattle.bmp_math.proofs.CongruenceLemmas.{same_add, same_mul, same_cancel, mul_zero}
use Rattle.bmp_math.proofs.SumLemmas.{sum_only_mod, sum_zero_mod}
use Rattle.bmp_poly.specs.Exponents.{IsMonomial}
use Rattle.bmp_poly.specs.Forms.{Form, times_variable, times_label, raised, lowered, SameForm, IsPure, Congruent, IsNormalForm, IsLabel}
use Rattle.bmp_poly.proofs.MonomialLemmas.{raised_monomial, lowered_monomial, lowered_raised, exponent_le}
use Rattle.bmp_poly.proofs.LabelLemmas.{congruent_refl, congruent_sym, congruent_trans}

-- a variable times q, where q is 0 one exponent below
term_zero : (p c k : ℕ) (q : Form) (m : List ℕ) → (0 < get_or m k 0 → SameMod p (q (lowered k m)) 0) →
    SameMod p (c * times_variable k q m) 0
term_zero p c k q m h =
    elim (cases_eq (get_or m k 0) 0) [
      | inl nothing ↦ mul_zero p c (times_variable k q m)
          (ap (λ z. z % p) (cond-true {A = ℕ} (eqb (get_or m k 0) 0) 0 (q (lowered k m))
          (eq-eqb (get_or m k 0) 0 nothing)))
      | inr some ↦ mul_zero p c (times_variable k q m)
          (ap (λ z. z % p) (cond-false {A = ℕ} (eqb (get_or m k 0) 0) 0 (q (lowered k m))
          (ne_eqb (get_or m k 0) 0 some)) ∙ h (omega arith))
    ]

module _ (p w r d l : ℕ) (c : ℕ → ℕ) (label : IsLabel p r c l) (wide : r ≤ w) where
  cancelled : (x : ℕ) → SameMod p (c l * x) 0 → SameMod p x 0
  cancelled x h =
      let inverse = label.inverse.0 in
      let one : SameMod p ((inverse * c l) * x) (1 * x) = same_mul p (inverse * c l) 1 x x label.inverse.1 refl in
      let shifted : (inverse * c l) * x ≡ inverse * (c l * x) = omega arith in
      let single : 1 * x ≡ x = omega arith in
      let none : inverse * 0 ≡ 0 = omega arith in
      sym (ap (λ z. z % p) single) ∙ sym one ∙ ap (λ z. z % p) shifted ∙ same_mul p inverse inverse (c l * x) 0 refl h
      ∙ ap (λ z. z % p) none

  -- q is 0 past some exponent of the leading variable
  abbrev VanishesPast : Form → ℕ → Type 0
  VanishesPast q bound = (m : List ℕ) → IsMonomial w r d m → bound ≤ get_or m l 0 → SameMod p (q m) 0

  step : (q : Form) → IsPure p w r (suc d) l (times_label r c q) → (bound : ℕ) → VanishesPast q (suc bound) →
      VanishesPast q bound
  unfolding times_label
  step q pure bound past m is above =
      let long : length m ≡ w = is.long in
      let here : l < r = label.here in
      let at_up : get_or (raised l m) l 0 ≡ get_or m l 0 + 1 = get_or-set_same m l (get_or m l 0 + 1) 0 (omega arith) in
      let up : IsMonomial w r (suc d) (raised l m) = raised_monomial w r d l m wide label.here is in
      let total : SameMod p (times_label r c q (raised l m)) 0 = pure (raised l m) up (omega arith) in
      let only : SameMod p (times_label r c q (raised l m)) (c l * times_variable l q (raised l m)) =
      sum_only_mod p (λ k. c k * times_variable k q (raised l m)) r l label.here
      (λ k k_below other. term_zero p (c k) k q (raised l m) (λ some.
      let kept : get_or (lowered k (raised l m)) l 0 ≡ get_or m l 0 + 1 =
      get_or-set_other (raised l m) k l (get_or (raised l m) k 0 - 1) 0 (λ e. other (sym e)) ∙ at_up in
      past (lowered k (raised l m)) (lowered_monomial w r d k (raised l m) wide k_below some up) (omega arith))) in
      let back : times_variable l q (raised l m) ≡ q m =
      cond-false {A = ℕ} (eqb (get_or (raised l m) l 0) 0) 0 (q (lowered l (raised l m)))
      (ne_eqb (get_or (raised l m) l 0) 0 (omega arith)) ∙ ap q (lowered_raised l m (omega arith)) in
      cancelled (q m) (sym (ap (λ z. (c l * z) % p) back) ∙ sym only ∙ total)

  vanishes : (q : Form) → IsPure p w r (suc d) l (times_label r c q) → (bound : ℕ) → VanishesPast q bound →
      VanishesPast q 0
  vanishes q pure zero past = past
  vanishes q pure (suc bound) past = vanishes q pure bound (step q pure bound past)

  -- where a multiple of the label is pure, the quotient is zero
  quotient_zero : (q : Form) → IsPure p w r (suc d) l (times_label r c q) → (m : List ℕ) → IsMonomial w r d m →
      SameMod p (q m) 0
  quotient_zero q pure m is =
      vanishes q pure (suc d) (λ n is_n above. absurd (omega (arith, exponent_le w r d l n wide label.here is_n))) m is
      (omega arith)

-- and so is the multiple
pub pure_multiple_zero : (p w r d l : ℕ) (c : ℕ → ℕ) → IsLabel p r c l → r ≤ w → (q : Form) →
    IsPure p w r d l (times_label r c q) → SameForm p w r d (times_label r c q) (λ m. 0)
unfolding times_label
pure_multiple_zero p w r zero l c label wide q pure m is =
    sum_zero_mod p (λ k. c k * times_variable k q m) r
    (λ k below. term_zero p (c k) k q m (λ some. absurd (omega (arith, exponent_le w r 0 k m wide below is))))
pure_multiple_zero p w r (suc d) l c label wide q pure m is =
    sum_zero_mod p (λ k. c k * times_variable k q m) r
    (λ k below. term_zero p (c k) k q m
    (λ some. quotient_zero p w r d l c label wide q pure (lowered k m)
    (lowered_monomial w r d k m wide below some is)))

module _ (q w r d l : ℕ) (c : ℕ → ℕ) (label : IsLabel (suc q) r c l) (wide : r ≤ w) where
  -- pure polynomials that are congruent are the same
  pub pure_congruent_same : (a b : Form) → IsPure (suc q) w r d l a → IsPure (suc q) w r d l b →
      Congruent (suc q) w r d c a b → SameForm (suc q) w r d a b
  pure_congruent_same a b pure_a pure_b g m is =
      let t = times_label r c g.quotient in
      let pure_t : IsPure (suc q) w r d l (times_label r c g.quotient) = λ n is_n some.
      let from_a : SameMod (suc q) (b n + t n) 0 = sym (g.sums n is_n) ∙ pure_a n is_n some in
      let swap : t n + b n ≡ b n + t n = omega arith in
      let none : SameMod (suc q) (0 + b n) 0 = let e : 0 + b n ≡ b n = omega arith in
      ap (λ z. z % suc q) e ∙ pure_b n is_n some in
      same_cancel (suc q) (t n) 0 (b n) (ap (λ z. z % suc q) swap ∙ from_a ∙ sym none) in
      let zero_t : SameMod (suc q) (t m) 0 = pure_multiple_zero (suc q) w r d l c label wide g.quotient pure_t m is in
      let alone : b m + 0 ≡ b m = omega arith in
      g.sums m is ∙ same_add (suc q) (b m) (b m) (t m) 0 refl zero_t ∙ ap (λ z. z % suc q) alone

  -- normal forms are the same exactly where the label divides the difference
  pub same_normal_forms : (a b a' b' : Form) → IsNormalForm (suc q) w r d c l a b →
      IsNormalForm (suc q) w r d c l a' b' → SameForm (suc q) w r d b b' ↔ Congruent (suc q) w r d c a a'
  same_normal_forms a b a' b' n n' = (
    (λ same. congruent_trans (suc q) w r d c a b a' n.congruent
        (congruent_trans (suc q) w r d c b b' a' (congruent_refl (suc q) w r d c b b' same)
        (congruent_sym q w r d c a' b' n'.congruent))),
    (λ g. pure_congruent_same b b' n.pure n'.pure
        (congruent_trans (suc q) w r d c b a b' (congruent_sym q w r d c a b n.congruent)
        (congruent_trans (suc q) w r d c a a' b' g n'.congruent))),
  )
