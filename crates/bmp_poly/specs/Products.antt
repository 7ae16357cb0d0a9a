-- Products of homogeneous polynomials.
--   product w r d a b          a of degree d times b: at h the sum of a f times b g over all f and g with f + g = h,
--                              where f runs through the monomials of degree d in the first r of w variables
--   IsProduct p r d e a b c    c is the product of a, of degree d, and b, of degree e, modulo p
use Rattle.std.specs.Prelude.{ℕ, ◌+◌, ◌*◌}
use Rattle.bmp_math.specs.Sums.{sum_below}
use Rattle.bmp_poly.specs.Exponents.{count, exponents}
use Rattle.bmp_poly.specs.Forms.{Form, SameForm}
use Rattle.bmp_poly.specs.Shifts.{shift}

-- for each f the one g is h divided by f
unfoldable pub product : ℕ → ℕ → ℕ → Form → Form → Form
product w r d a b h = sum_below (λ i. a (exponents w r d i) * shift (exponents w r d i) b h) (count r d)

abbrev pub IsProduct : ℕ → ℕ → ℕ → ℕ → Form → Form → Form → Type 0
IsProduct p r d e a b c = SameForm p 6 r (d + e) c (product 6 r d a b)
