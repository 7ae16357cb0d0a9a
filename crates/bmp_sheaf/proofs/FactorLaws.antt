-- Products are linear in the first factor, and read it at its monomials alone.
use Rattle.std.proofs.Common.{◌≡◌, ℕ, ◌+◌, ◌*◌, ◌≤◌, List, refl, ap, ◌∙◌, arith}
use Rattle.bmp_math.specs.Congruences.{SameMod}
use Rattle.bmp_math.proofs.CongruenceLemmas.{same_mul}
use Rattle.bmp_math.proofs.SumLemmas.{sum_below_same, sum_below-add, sum_below-mul, sum_below-zeros, sum_same_mod}
use Rattle.bmp_poly.specs.Exponents.{IsMonomial, count, exponents}
use Rattle.bmp_poly.specs.Forms.{Form, SameForm}
use Rattle.bmp_poly.specs.Shifts.{shift}
use Rattle.bmp_poly.specs.Products.{product}
use Rattle.bmp_poly.proofs.PlaceLemmas.{exponents_stand, StandsAt}

module _ (r d : ℕ) (c : Form) (h : List ℕ) where
  -- the i-th monomial of the first factor, and what it is multiplied by
  abbrev at : ℕ → List ℕ
  at i = exponents 6 r d i

  abbrev rest : ℕ → ℕ
  rest i = shift (at i) c h

  pub product-plus : (a b : Form) → product 6 r d (λ m. a m + b m) c h ≡ product 6 r d a c h + product 6 r d b c h
  unfolding product
  product-plus a b =
      sum_below_same (λ i. (a (at i) + b (at i)) * rest i) (λ i. a (at i) * rest i + b (at i) * rest i) (count r d)
      (λ i below. split (a (at i)) (b (at i)) (rest i))
      ∙ sum_below-add (λ i. a (at i) * rest i) (λ i. b (at i) * rest i) (count r d)
    where
      split : (x y z : ℕ) → (x + y) * z ≡ x * z + y * z
      split x y z = omega arith

  pub product-times : (x : ℕ) (a : Form) → product 6 r d (λ m. x * a m) c h ≡ x * product 6 r d a c h
  unfolding product
  product-times x a =
      sum_below_same (λ i. (x * a (at i)) * rest i) (λ i. x * (a (at i) * rest i)) (count r d)
      (λ i below. regroup x (a (at i)) (rest i))
      ∙ sum_below-mul x (λ i. a (at i) * rest i) (count r d)
    where
      regroup : (x y z : ℕ) → (x * y) * z ≡ x * (y * z)
      regroup x y z = omega arith

  pub product_none : (a : Form) → r ≤ 6 → ((m : List ℕ) → IsMonomial 6 r d m → a m ≡ 0) → product 6 r d a c h ≡ 0
  unfolding product
  product_none a wide none =
      sum_below_same (λ i. a (at i) * rest i) (λ i. 0) (count r d)
      (λ i below. let stands : StandsAt 6 r d i (at i) = exponents_stand 6 r d i wide below in
      ap (λ z. z * rest i) (none (at i) stands.monomial) ∙ nothing (rest i))
      ∙ sum_below-zeros (count r d)
    where
      nothing : (x : ℕ) → 0 * x ≡ 0
      nothing x = omega arith

  pub product_same : (p : ℕ) (a b : Form) → r ≤ 6 → SameForm p 6 r d a b →
      SameMod p (product 6 r d a c h) (product 6 r d b c h)
  unfolding product
  product_same p a b wide same =
      sum_same_mod p (λ i. a (at i) * rest i) (λ i. b (at i) * rest i) (count r d)
      (λ i below. let stands : StandsAt 6 r d i (at i) = exponents_stand 6 r d i wide below in
      same_mul p (a (at i)) (b (at i)) (rest i) (rest i) (same (at i) stands.monomial) refl)
