-- Multiples of a label, and what is congruent by it.
use Rattle.std.proofs.Common.{◌≡◌, ℕ, suc, ◌+◌, ◌*◌, ◌%◌, true, false, List, get_or, cond, eqb, refl, sym, ap, ◌∙◌, arith}
use Rattle.bmp_math.specs.Congruences.{SameMod}
use Rattle.bmp_math.proofs.CongruenceLemmas.{same_add, same_mul, same_past}
use Rattle.bmp_math.proofs.SumLemmas.{sum_below_same, sum_below-add, sum_below-mul}
use Rattle.bmp_poly.specs.Forms.{Form, times_variable, times_label, lowered, SameForm, Congruent}

times_variable-add : (k : ℕ) (q d : Form) (m : List ℕ) →
    times_variable k (λ e. q e + d e) m ≡ times_variable k q m + times_variable k d m
times_variable-add k q d m =
    elim (eqb (get_or m k 0) 0) as
    (λ b. cond b 0 (q (lowered k m) + d (lowered k m)) ≡ cond b 0 (q (lowered k m)) + cond b 0 (d (lowered k m)))
    [ true ↦ refl | false ↦ refl ]

times_variable-mul : (k x : ℕ) (q : Form) (m : List ℕ) → times_variable k (λ e. x * q e) m ≡ x * times_variable k q m
times_variable-mul k x q m =
    elim (eqb (get_or m k 0) 0) as (λ b. cond b 0 (x * q (lowered k m)) ≡ x * cond b 0 (q (lowered k m)))
    [ true ↦ omega arith | false ↦ refl ]

pub times_label-add : (r : ℕ) (c : ℕ → ℕ) (q d : Form) (m : List ℕ) →
    times_label r c (λ e. q e + d e) m ≡ times_label r c q m + times_label r c d m
unfolding times_label
times_label-add r c q d m =
    sum_below_same (λ k. c k * times_variable k (λ e. q e + d e) m)
    (λ k. c k * times_variable k q m + c k * times_variable k d m) r
    (λ k l. ap (λ x. c k * x) (times_variable-add k q d m) ∙ split (c k) (times_variable k q m) (times_variable k d m))
    ∙ sum_below-add (λ k. c k * times_variable k q m) (λ k. c k * times_variable k d m) r
  where
    split : (x y z : ℕ) → x * (y + z) ≡ x * y + x * z
    split x y z = omega arith

pub times_label-mul : (r : ℕ) (c : ℕ → ℕ) (x : ℕ) (q : Form) (m : List ℕ) →
    times_label r c (λ e. x * q e) m ≡ x * times_label r c q m
unfolding times_label
times_label-mul r c x q m =
    sum_below_same (λ k. c k * times_variable k (λ e. x * q e) m) (λ k. x * (c k * times_variable k q m)) r
    (λ k l. ap (λ y. c k * y) (times_variable-mul k x q m) ∙ turn (c k) x (times_variable k q m))
    ∙ sum_below-mul x (λ k. c k * times_variable k q m) r
  where
    turn : (y x z : ℕ) → y * (x * z) ≡ x * (y * z)
    turn y x z = omega arith

module _ (p w r d : ℕ) (c : ℕ → ℕ) where
  pub congruent_refl : (a b : Form) → SameForm p w r d a b → Congruent p w r d c a b
  congruent_refl a b h = record {
    quotient = λ e. 0 * 0;
    sums = λ m is. let none : b m ≡ b m + times_label r c (λ e. 0 * 0) m =
        omega (arith, times_label-mul r c 0 (λ e. 0) m) in h m is ∙ ap (λ z. z % p) none;
  }

  pub congruent_trans : (a b e : Form) → Congruent p w r d c a b → Congruent p w r d c b e → Congruent p w r d c a e
  congruent_trans a b e f g = record {
    quotient = λ m. f.quotient m + g.quotient m;
    sums = λ m is.
        let joined : SameMod p (b m + times_label r c f.quotient m)
        ((e m + times_label r c g.quotient m) + times_label r c f.quotient m) =
        same_add p (b m) (e m + times_label r c g.quotient m) (times_label r c f.quotient m)
        (times_label r c f.quotient m) (g.sums m is) refl in
        let regrouped : (e m + times_label r c g.quotient m) + times_label r c f.quotient m ≡ e m + times_label r c
        (λ k. f.quotient k + g.quotient k) m = omega (arith, times_label-add r c f.quotient g.quotient m) in
        f.sums m is ∙ joined ∙ ap (λ z. z % p) regrouped;
  }

  pub congruent_add : (a b e f : Form) → Congruent p w r d c a b → Congruent p w r d c e f →
      Congruent p w r d c (λ m. a m + e m) (λ m. b m + f m)
  congruent_add a b e f g h = record {
    quotient = λ m. g.quotient m + h.quotient m;
    sums = λ m is.
        let joined : SameMod p (a m + e m)
        ((b m + times_label r c g.quotient m) + (f m + times_label r c h.quotient m)) =
        same_add p (a m) (b m + times_label r c g.quotient m) (e m) (f m + times_label r c h.quotient m)
        (g.sums m is) (h.sums m is) in
        let regrouped : (b m + times_label r c g.quotient m) + (f m + times_label r c h.quotient m)
        ≡ (b m + f m) + times_label r c (λ k. g.quotient k + h.quotient k) m =
        omega (arith, times_label-add r c g.quotient h.quotient m) in
        joined ∙ ap (λ z. z % p) regrouped;
  }

  pub congruent_mul : (x : ℕ) (a b : Form) → Congruent p w r d c a b → Congruent p w r d c (λ m. x * a m) (λ m. x * b m)
  congruent_mul x a b g = record {
    quotient = λ m. x * g.quotient m;
    sums = λ m is.
        let whole : SameMod p (x * a m) (x * (b m + times_label r c g.quotient m)) =
        same_mul p x x (a m) (b m + times_label r c g.quotient m) refl (g.sums m is) in
        let regrouped : x * (b m + times_label r c g.quotient m) ≡ x * b m + times_label r c (λ k. x * g.quotient k) m =
        omega (arith, times_label-mul r c x g.quotient m) in
        whole ∙ ap (λ z. z % p) regrouped;
  }

-- the difference the other way round: less is a factor, p - 1
pub congruent_sym : (q w r d : ℕ) (c : ℕ → ℕ) (a b : Form) → Congruent (suc q) w r d c a b →
    Congruent (suc q) w r d c b a
congruent_sym q w r d c a b g = record {
  quotient = λ m. q * g.quotient m;
  sums = λ m is.
      let t = times_label r c g.quotient m in
      let padded : SameMod (suc q) (a m + q * t) ((b m + t) + q * t) =
      same_add (suc q) (a m) (b m + t) (q * t) (q * t) (g.sums m is) refl in
      let whole : (b m + t) + q * t ≡ b m + suc q * t = omega arith in
      let turned : a m + times_label r c (λ k. q * g.quotient k) m ≡ a m + q * t =
      ap (λ z. a m + z) (times_label-mul r c q g.quotient m) in
      sym (ap (λ z. z % suc q) turned ∙ padded ∙ ap (λ z. z % suc q) whole ∙ same_past (suc q) (b m) t);
}
