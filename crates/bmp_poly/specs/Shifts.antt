-- Products and quotients of monomials, and a monomial times a polynomial.
--   contains e m      m divides e: no exponent of m is larger
--   less e m          e divided by m: the exponents subtracted, 0 where m's is larger
--   joined e m        e times m: the exponents added
--   shift m a         the monomial m times the polynomial a
use Rattle.std.specs.Prelude.{ℕ, ◌+◌, ◌-◌, Bool, true, false, ◌&&◌, nat_le, if◌then◌else◌, List, [], ◌∷◌}
use Rattle.bmp_poly.specs.Forms.{Form}

unfoldable pub contains : List ℕ → List ℕ → Bool
contains [] [] = true
contains [] (y ∷ m) = false
contains (x ∷ e) [] = true
contains (x ∷ e) (y ∷ m) = nat_le y x && contains e m

unfoldable pub less : List ℕ → List ℕ → List ℕ
less [] [] = []
less [] (y ∷ m) = []
less (x ∷ e) [] = x ∷ e
less (x ∷ e) (y ∷ m) = (x - y) ∷ less e m

unfoldable pub joined : List ℕ → List ℕ → List ℕ
joined [] [] = []
joined [] (y ∷ m) = y ∷ m
joined (x ∷ e) [] = x ∷ e
joined (x ∷ e) (y ∷ m) = (x + y) ∷ joined e m

-- at e it has what a has at e divided by m
abbrev pub shift : List ℕ → Form → Form
shift m a e = if contains e m then a (less e m) else 0
