-- Exponents of monomials, and the listing of the monomials of a degree.
-- Exponents are a list of w numbers for the r variables at hand, r at most w; those past the first r are 0.
-- In memory w is 6. The listing goes by the exponents from the first on, the larger first:
-- in degree 2 and two variables it is x x, x y, y y.
--   IsMonomial w r d m     m is the exponents of a monomial of degree d in the first r of w variables
--   ComesBefore m n        at the first variable where they differ, m has the larger exponent
--   count r d              how many monomials of degree d there are in r variables
--   place r m              how many monomials of its degree come before m
--   exponents w r d i      the monomial of degree d at place i
--   zeros w                w zeros: the monomial 1
--   level f i d            the greatest j up to d for which f 0 + .. + f (j - 1) is at most i
use Rattle.std.specs.Prelude.{◌≡◌, ℕ, zero, suc, ◌+◌, ◌-◌, ◌<◌, ◌≤◌, nat_le, if◌then◌else◌, List, [], ◌∷◌, length, slice_index, sum}
use Rattle.bmp_math.specs.Sums.{sum_below}

-- the exponents of a monomial of degree d in the first r of w variables
pub record IsMonomial (w r d : ℕ) (m : List ℕ) : Type 0 where
  pub long : length m ≡ w
  pub size : sum m ≡ d
  pub past : (k : ℕ) → r ≤ k → slice_index m k ≡ 0

-- the order of the listing
pub record ComesBefore (m n : List ℕ) : Type 0 where
  pub variable : ℕ
  pub larger : slice_index n variable < slice_index m variable
  pub same : (k : ℕ) → k < variable → slice_index m k ≡ slice_index n k

-- by the exponent of the first variable, which leaves 0 to d for the others
unfoldable pub count : ℕ → ℕ → ℕ
count zero zero = 1
count zero (suc d) = 0
count (suc r) d = sum_below (count r) (suc d)

-- those with a larger first exponent leave less than sum m for the others
unfoldable pub place : ℕ → List ℕ → ℕ
place zero m = 0
place (suc r) [] = 0
place (suc r) (k ∷ m) = sum_below (count r) (sum m) + place r m

-- the greatest j up to d for which the first j terms of f sum to at most i
unfoldable pub level : (ℕ → ℕ) → ℕ → ℕ → ℕ
level f i zero = 0
level f i (suc d) = if nat_le (sum_below f (suc d)) i then suc d else level f i d

unfoldable pub zeros : ℕ → List ℕ
zeros zero = []
zeros (suc w) = 0 ∷ zeros w

-- j is what the first exponent leaves for the others
unfoldable pub exponents : ℕ → ℕ → ℕ → ℕ → List ℕ
exponents w zero d i = zeros w
exponents zero (suc r) d i = []
exponents (suc w) (suc r) d i =
    let j = level (count r) i d in (d - j) ∷ exponents w r j (i - sum_below (count r) j)
