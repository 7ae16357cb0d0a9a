-- Homogeneous polynomials as clauses see them.
--   Polynomial E         a rank, a degree, and the coefficients, of type E, along the listing of the monomials
--   form_of num a        the polynomial as a function of exponents, by the numbers of its coefficients
--   HasShape r d xs      r is from 1 to 6, d from 0 to 6, and xs has one coefficient for each monomial
--   IsShaped a           so the rank, the degree and the coefficients of a
--   IsSum p a b s        the polynomial s is a plus b, modulo p
--   IsMultiple p c a s   s is c times a, modulo p
use Rattle.std.specs.Prelude.{◌≡◌, ℕ, ◌+◌, ◌*◌, ◌%◌, ◌<◌, ◌≤◌, List, length}
use Rattle.bmp_poly.specs.Exponents.{count}
use Rattle.bmp_poly.specs.Forms.{Form}
use Rattle.bmp_poly.specs.Coefficients.{form}

pub record Polynomial (E : Type 0) : Type 0 where
  pub rank : ℕ
  pub degree : ℕ
  pub coefficients : List E

abbrev pub form_of : {E : Type 0} → (E → ℕ) → Polynomial E → Form
form_of num a = form num a.rank a.coefficients

pub record HasShape {E : Type 0} (r d : ℕ) (xs : List E) : Type 0 where
  pub some : 0 < r
  pub rank : r ≤ 6
  pub degree : d ≤ 6
  pub sized : length xs ≡ count r d

abbrev pub IsShaped : {E : Type 0} → Polynomial E → Type 0
IsShaped a = HasShape a.rank a.degree a.coefficients

abbrev pub IsSum : ℕ → Form → Form → Form → Type 0
IsSum p a b s = (m : List ℕ) → s m ≡ (a m + b m) % p

abbrev pub IsMultiple : ℕ → ℕ → Form → Form → Type 0
IsMultiple p c a s = (m : List ℕ) → s m ≡ (c * a m) % p
