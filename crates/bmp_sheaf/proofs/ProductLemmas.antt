-- A polynomial times a constant.
use Rattle.std.proofs.Common.{◌≡◌, ℕ, ◌+◌, ◌*◌, ◌≤◌, ◌⊎◌, true, false, List, ap, subst, ◌∙◌, inl, inr, arith}
use Rattle.std.proofs.Math.Path.{fun_ext}
use Rattle.std.proofs.lemmas.Bool.{cases_Bool}
use Rattle.bmp_math.proofs.SumLemmas.{sum_below_same, sum_below-zeros}
use Rattle.bmp_poly.specs.Exponents.{IsMonomial, count, exponents}
use Rattle.bmp_poly.specs.Forms.{Form}
use Rattle.bmp_poly.specs.Shifts.{contains, less, shift}
use Rattle.bmp_poly.specs.Products.{product}
use Rattle.bmp_poly.proofs.ProductLemmas.{product-comm}
use Rattle.bmp_poly.proofs.ProductLemmas.{product-one as one-product}

-- a times the constant 1
pub product-one : (r s : ℕ) (a b : Form) (m : List ℕ) → r ≤ 6 → IsMonomial 6 r s m → ((n : List ℕ) → b n ≡ 1) →
    product 6 r s a b m ≡ a m
product-one r s a b m wide is one =
    let whole : s ≡ s + 0 = omega arith in
    ap (λ (c : Form). product 6 r s a c m) (fun_ext one)
    ∙ product-comm r s 0 a (λ n. 1) m wide (subst (λ k. IsMonomial 6 r k m) whole is)
    ∙ one-product r s a m wide is

-- a times 0
pub product-zero : (r s : ℕ) (a b : Form) (m : List ℕ) → ((n : List ℕ) → b n ≡ 0) → product 6 r s a b m ≡ 0
unfolding product
product-zero r s a b m none =
    sum_below_same (λ i. a (exponents 6 r s i) * shift (exponents 6 r s i) b m) (λ i. 0) (count r s)
    (λ i below. nothing i (cases_Bool (contains m (exponents 6 r s i))))
    ∙ sum_below-zeros (count r s)
  where
    nothing : (i : ℕ) → (contains m (exponents 6 r s i) ≡ true) ⊎ (contains m (exponents 6 r s i) ≡ false) →
        a (exponents 6 r s i) * shift (exponents 6 r s i) b m ≡ 0
    nothing i (inl held) = rw (held, none (less m (exponents 6 r s i))) (omega arith)
    nothing i (inr apart) = rw apart (omega arith)
