-- The laws of normal forms and of congruence, for any modulus but 0.
use Rattle.std.proofs.Common.{◌≡◌, ℕ, zero, suc, ◌+◌, ◌*◌, ◌%◌, ◌<◌, ◌≤◌, ◌↔◌, List, get_or, refl, ap, ◌∙◌, arith}
use Rattle.bmp_math.specs.Sums.{sum_below}
use Rattle.bmp_math.proofs.SumLemmas.{sum_below_same, sum_below-zeros}
use Rattle.bmp_poly.specs.Exponents.{IsMonomial, count, exponents}
use Rattle.bmp_poly.specs.Forms.{Form, times_variable, times_label, IsLabel, SameForm, Congruent, LabelDivides, IsNormalForm}
use Rattle.bmp_poly.specs.Shifts.{shift}
use Rattle.bmp_poly.specs.Products.{product}
use Rattle.bmp_poly.specs.Statements.{HasOneNormalForm, IsCongruence}
use Rattle.bmp_poly.proofs.PlaceLemmas.{exponents_stand, StandsAt}
use Rattle.bmp_poly.proofs.MonomialLemmas.{exponent_le}
use Rattle.bmp_poly.proofs.LabelLemmas.{congruent_refl, congruent_sym, congruent_trans, congruent_add, congruent_mul}
use Rattle.bmp_poly.proofs.ShiftedMultiples.{congruent_shift}
use Rattle.bmp_poly.proofs.NormalForms.{same_normal_forms}
use Rattle.bmp_poly.proofs.Reducing.{normal_form}

pub one_normal_form : (p w r d l : ℕ) (c : ℕ → ℕ) → 0 < p → r ≤ w → IsLabel p r c l → (a : Form) →
    HasOneNormalForm p w r d c l a
one_normal_form zero w r d l c some wide label a = absurd (omega arith)
one_normal_form (suc q) w r d l c some wide label a =
    let found = normal_form q w r d l c label wide a in
    record {
      normal = found.0;
      is = found.1;
      only = λ b is. (same_normal_forms q w r d l c label wide a found.0 a b found.1 is).1
          (congruent_refl (suc q) w r d c a a (λ m h. refl));
    }

pub equal_where_congruent : (p w r d l : ℕ) (c : ℕ → ℕ) → 0 < p → r ≤ w → IsLabel p r c l → (a a' b b' : Form) →
    IsNormalForm p w r d c l a b → IsNormalForm p w r d c l a' b' → SameForm p w r d b b' ↔ Congruent p w r d c a a'
equal_where_congruent zero w r d l c some wide label a a' b b' n n' = absurd (omega arith)
equal_where_congruent (suc q) w r d l c some wide label a a' b b' n n' =
    same_normal_forms q w r d l c label wide a b a' b' n n'

-- sums of congruent polynomials
congruent_sum : (p r d n : ℕ) (c : ℕ → ℕ) (f g : ℕ → Form) → ((i : ℕ) → i < n → Congruent p 6 r d c (f i) (g i)) →
    Congruent p 6 r d c (λ h. sum_below (λ i. f i h) n) (λ h. sum_below (λ i. g i h) n)
unfolding sum_below
congruent_sum p r d zero c f g h = congruent_refl p 6 r d c (λ m. 0) (λ m. 0) (λ m is. refl)
congruent_sum p r d (suc n) c f g h =
    congruent_add p 6 r d c (λ m. sum_below (λ i. f i m) n) (λ m. sum_below (λ i. g i m) n) (f n) (g n)
    (congruent_sum p r d n c f g (λ i l. h i (omega arith))) (h n (omega arith))

congruent_product : (p r d k : ℕ) (c : ℕ → ℕ) (e a b : Form) → r ≤ 6 → Congruent p 6 r d c a b →
    Congruent p 6 r (d + k) c (product 6 r k e a) (product 6 r k e b)
unfolding product
congruent_product p r d k c e a b rank h =
    congruent_sum p r (d + k) (count r k) c (λ i m. e (exponents 6 r k i) * shift (exponents 6 r k i) a m)
    (λ i m. e (exponents 6 r k i) * shift (exponents 6 r k i) b m)
    (λ i below. let stands : StandsAt 6 r k i (exponents 6 r k i) = exponents_stand 6 r k i rank below in
    congruent_mul p 6 r (d + k) c (e (exponents 6 r k i)) (shift (exponents 6 r k i) a)
    (shift (exponents 6 r k i) b)
    (congruent_shift p r d k (d + k) c (exponents 6 r k i) a b stands.monomial refl h))

pub is_congruence : (p r d : ℕ) (c : ℕ → ℕ) → 0 < p → r ≤ 6 → IsCongruence p r d c
is_congruence zero r d c some rank = absurd (omega arith)
is_congruence (suc q) r d c some rank = record {
  same = congruent_refl (suc q) 6 r d c;
  turned = congruent_sym q 6 r d c;
  chained = congruent_trans (suc q) 6 r d c;
  sums = congruent_add (suc q) 6 r d c;
  multiples = congruent_mul (suc q) 6 r d c;
  shifts = λ k n a b is h. congruent_shift (suc q) r d k (d + k) c n a b is refl h;
  products = λ k e a b h. congruent_product (suc q) r d k c e a b rank h;
}

-- a multiple of a linear form has no constant
times_label-constant : (w r : ℕ) (c : ℕ → ℕ) (q : Form) (m : List ℕ) → r ≤ w → IsMonomial w r 0 m →
    times_label r c q m ≡ 0
unfolding times_label
times_label-constant w r c q m wide is =
    sum_below_same (λ k. c k * times_variable k q m) (λ k. 0) r (λ k below.
    let none : get_or m k 0 ≡ 0 = omega (arith, exponent_le w r 0 k m wide below is) in
    rw none (omega arith))
    ∙ sum_below-zeros r

pub constant_divided : (p w r : ℕ) (c : ℕ → ℕ) (a : Form) → r ≤ w → LabelDivides p w r 0 c a ↔
    SameForm p w r 0 a (λ m. 0)
constant_divided p w r c a wide = (
  (λ h m is. h.sums m is ∙ ap (λ z. (0 + z) % p) (times_label-constant w r c h.quotient m wide is)),
  (λ h. congruent_refl p w r 0 c a (λ m. 0) h),
)
