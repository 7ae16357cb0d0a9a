-- Elements of a free graded module over the polynomials in r variables, with numbers modulo p.
-- The module is the list of its generators' degrees; the degree of a linear form is 1. In the order to read:
--   Element                          a polynomial for each generator, by the generator's number
--   HasComponent degrees d g s       in degree d, the polynomial at generator g is one of degree s
--   SameElement p r degrees d u v    u and v are the same element of degree d
--   CongruentElement p r degrees c d u v    the label c divides each component of u less v
--   zero_element                     0 at each generator
--   monomial_times m u               the monomial m times u
--   extension r degrees images d u   the sum, over the generators, of u's polynomial times the generator's image
-- A generator whose degree is above d has no component in degree d, and nothing is read of u there.
use Rattle.std.specs.Prelude.{◌≡◌, ℕ, ◌+◌, ◌-◌, ◌<◌, nat_le, if◌then◌else◌, List, length, slice_index}
use Rattle.bmp_math.specs.Sums.{sum_below}
use Rattle.bmp_poly.specs.Forms.{Form, SameForm, Congruent}
use Rattle.bmp_poly.specs.Shifts.{shift}
use Rattle.bmp_poly.specs.Products.{product}

-- generators count from 0
abbrev pub Element : Type 0
Element = ℕ → Form

-- the degree of the generator and that of its polynomial make d
abbrev pub HasComponent : List ℕ → ℕ → ℕ → ℕ → Type 0
HasComponent degrees d g s = (g < length degrees) × (slice_index degrees g + s ≡ d)

abbrev pub SameElement : ℕ → ℕ → List ℕ → ℕ → Element → Element → Type 0
SameElement p r degrees d u v = (g s : ℕ) → HasComponent degrees d g s → SameForm p 6 r s (u g) (v g)

-- some polynomial times the label is the difference of the components, at each generator
abbrev pub CongruentElement : ℕ → ℕ → List ℕ → (ℕ → ℕ) → ℕ → Element → Element → Type 0
CongruentElement p r degrees c d u v = (g s : ℕ) → HasComponent degrees d g s → Congruent p 6 r s c (u g) (v g)

abbrev pub zero_element : Element
zero_element g m = 0

abbrev pub monomial_times : List ℕ → Element → Element
monomial_times n u g = shift n (u g)

-- the component at the generator h of the image: images g h is the polynomial at h of the image of the generator g
unfoldable pub extension : ℕ → List ℕ → (ℕ → Element) → ℕ → Element → Element
extension r degrees images d u h m =
    sum_below
    (λ g. if nat_le (slice_index degrees g) d then product 6 r (d - slice_index degrees g) (u g) (images g h) m else 0)
    (length degrees)
