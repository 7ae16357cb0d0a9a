-- The polynomials of an element of a free module, its generators, and equality modulo a linear form.
--   component r gs h d u            the polynomial at the h-th generator of the element of degree d with coordinates u;
--                                   its degree is d less the generator's
--   IsGenerator r gs g v            the element with coordinates v is the generator g: its polynomial is 1 at g and 0
--                                   at the others
--   IsSameModulo p r c gs d u v     at each generator of degree at most d the linear form c divides the difference of
--                                   the polynomials of u and v
use Rattle.std.specs.Prelude.{◌≡◌, ℕ, zero, suc, ◌+◌, ◌-◌, ◌<◌, ◌≤◌, ◌==◌, if◌then◌else◌, List, [], ◌∷◌, length, slice_index}
use Rattle.bmp_poly.specs.Exponents.{IsMonomial, place}
use Rattle.bmp_poly.specs.Forms.{Form, Congruent}
use Rattle.bmp_graded.specs.Modules.{polynomials, moved}

unfoldable pub component : ℕ → List ℕ → ℕ → ℕ → (ℕ → ℕ) → Form
component r [] h d u m = 0
component r (g ∷ gs) zero d u m = u (place r m)
component r (g ∷ gs) (suc h) d u m = component r gs h d (λ i. u ((moved g (polynomials r)).dim d + i)) m

abbrev pub IsGenerator : ℕ → List ℕ → ℕ → (ℕ → ℕ) → Type 0
IsGenerator r gs g v = (h : ℕ) (m : List ℕ) → h < length gs → slice_index gs h ≤ slice_index gs g
    → IsMonomial 6 r (slice_index gs g - slice_index gs h) m
    → component r gs h (slice_index gs g) v m ≡ (if h == g then 1 else 0)

abbrev pub IsSameModulo : ℕ → ℕ → (ℕ → ℕ) → List ℕ → ℕ → (ℕ → ℕ) → (ℕ → ℕ) → Type 0
IsSameModulo p r c gs d u v = (h : ℕ) → h < length gs → slice_index gs h ≤ d
    → Congruent p 6 r (d - slice_index gs h) c (component r gs h d u) (component r gs h d v)
