-- Graded modules over the polynomials, and their maps. An element of degree d is its coordinates: a vector of
-- `dim d` numbers modulo p. Both degrees of an action are arguments, so that none is computed from the other.
--   Graded                     a dimension for each degree, and what a monomial does to coordinates
--   IsModule p r M             the laws of a module over the polynomials in r variables
--   IsModuleMap p r M N map    `map d` sends elements of degree d of M to such of N, and keeps sums, multiples,
--                              equality of elements and multiples by monomials
use Rattle.std.specs.Prelude.{◌≡◌, ℕ, ◌+◌, List}
use Rattle.bmp_math.specs.Vectors.{SameVector, IsLinear}
use Rattle.bmp_poly.specs.Exponents.{IsMonomial, zeros}
use Rattle.bmp_poly.specs.Shifts.{joined}

-- `act m d t v`: the coordinates, in degree t, of the monomial m times the element of degree d with coordinates v
pub record Graded : Type 0 where
  pub dim : ℕ → ℕ
  pub act : List ℕ → ℕ → ℕ → (ℕ → ℕ) → ℕ → ℕ

pub record IsModule (p r : ℕ) (M : Graded) : Type 0 where
  -- a monomial acts linearly and raises the degree by its own
  pub linear : (m : List ℕ) (k d t : ℕ) → IsMonomial 6 r k m → d + k ≡ t
      → IsLinear p (M.dim d) (M.dim t) (M.act m d t)
  -- the monomial of degree 0 acts as the identity
  pub one : (d : ℕ) (v : ℕ → ℕ) → SameVector p (M.dim d) (M.act (zeros 6) d d v) v
  -- monomials act one after another as their product
  pub after : (m n : List ℕ) (k h d t u : ℕ) (v : ℕ → ℕ) → IsMonomial 6 r k m → IsMonomial 6 r h n → d + k ≡ t →
      t + h ≡ u
      → SameVector p (M.dim u) (M.act n t u (M.act m d t v)) (M.act (joined m n) d u v)

pub record IsModuleMap (p r : ℕ) (M N : Graded) (map : ℕ → (ℕ → ℕ) → ℕ → ℕ) : Type 0 where
  pub linear : (d : ℕ) → IsLinear p (M.dim d) (N.dim d) (map d)
  pub acts : (m : List ℕ) (k d t : ℕ) (v : ℕ → ℕ) → IsMonomial 6 r k m → d + k ≡ t
      → SameVector p (N.dim t) (map t (M.act m d t v)) (N.act m d t (map d v))
