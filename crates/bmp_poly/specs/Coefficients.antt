-- Polynomials in memory: the list of the coefficients along the listing of the monomials.
--   coefficient num xs i          the number of the coefficient at place i, 0 past the end
--   form num r xs                 the polynomial in r variables with these coefficients
--   AreSums num p xs ys zs        the numbers of zs are the sums, modulo p, of those of xs and ys
--   AreMultiples num p c xs zs    the numbers of zs are c times those of xs, modulo p
use Rattle.std.specs.Prelude.{◌≡◌, ℕ, zero, suc, ◌+◌, ◌*◌, ◌%◌, List, [], ◌∷◌}
use Rattle.bmp_poly.specs.Exponents.{place}
use Rattle.bmp_poly.specs.Forms.{Form}

unfoldable pub coefficient : {E : Type 0} → (E → ℕ) → List E → ℕ → ℕ
coefficient num [] i = 0
coefficient num (x ∷ xs) zero = num x
coefficient num (x ∷ xs) (suc i) = coefficient num xs i

abbrev pub form : {E : Type 0} → (E → ℕ) → ℕ → List E → Form
form num r xs m = coefficient num xs (place r m)

abbrev pub AreSums : {E : Type 0} → (E → ℕ) → ℕ → List E → List E → List E → Type 0
AreSums num p xs ys zs = (i : ℕ) → coefficient num zs i ≡ (coefficient num xs i + coefficient num ys i) % p

abbrev pub AreMultiples : {E : Type 0} → (E → ℕ) → ℕ → ℕ → List E → List E → Type 0
AreMultiples num p c xs zs = (i : ℕ) → coefficient num zs i ≡ (c * coefficient num xs i) % p
