-- Maps of graded modules.
--   blockwise n m f gs u         block by block, one for each of the degrees gs: f g takes the block of n g numbers
--                                of u to a block of m g numbers
--   projection p r l c gs        a free module in r + 1 variables to the same modulo the linear form c
--   multiples r M g w d u        the polynomial with coefficients u times the element w, of degree g, of M, in degree
--                                d: the polynomial's degree is d - g; 0 where g is above d
--   extension r M gs ws          the map from the free module that sends its h-th generator to ws h: an element is
--                                sent to the sum of its polynomials times these images
use Rattle.std.specs.Prelude.{ℕ, suc, ◌+◌, ◌-◌, ◌*◌, cond, List, [], ◌∷◌}
use Rattle.std.proofs.Common.{leb, ltb}
use Rattle.bmp_math.specs.Sums.{sum_below}
use Rattle.bmp_poly.specs.Exponents.{count, place, exponents}
use Rattle.bmp_graded.specs.Graded.{Graded}
use Rattle.bmp_graded.specs.Modules.{polynomials, moved}
use Rattle.bmp_graded.specs.NormalForms.{normal_by}
use Rattle.bmp_graded.specs.Quotients.{insert, reduced}

unfoldable pub blockwise : (ℕ → ℕ) → (ℕ → ℕ) → (ℕ → (ℕ → ℕ) → ℕ → ℕ) → List ℕ → (ℕ → ℕ) → ℕ → ℕ
blockwise n m f [] u j = 0
blockwise n m f (g ∷ gs) u j = cond (ltb j (m g)) (f g u j) (blockwise n m f gs (λ i. u (n g + i)) (j - m g))

-- the normal form of the polynomial with coefficients u, by the coefficients of the monomials without the l-th variable
abbrev pub project_one : ℕ → ℕ → ℕ → (ℕ → ℕ) → ℕ → (ℕ → ℕ) → ℕ → ℕ
project_one p r l c d u i = normal_by p (suc r) l c d (λ e. u (place (suc r) e)) (insert l (exponents 5 r d i))

abbrev pub projection : ℕ → ℕ → ℕ → (ℕ → ℕ) → List ℕ → ℕ → (ℕ → ℕ) → ℕ → ℕ
projection p r l c gs d =
    blockwise (λ g. (moved g (polynomials (suc r))).dim d)
    (λ g. (moved g (reduced r l (normal_by p (suc r) l c))).dim d)
    (λ g. project_one p r l c (d - g)) gs

unfoldable pub multiples : ℕ → Graded → ℕ → (ℕ → ℕ) → ℕ → (ℕ → ℕ) → ℕ → ℕ
multiples r M g w d u j =
    cond (leb g d) (sum_below (λ i. u i * M.act (exponents 6 r (d - g) i) g d w j) (count r (d - g))) 0

unfoldable pub extension : ℕ → Graded → List ℕ → (ℕ → ℕ → ℕ) → ℕ → (ℕ → ℕ) → ℕ → ℕ
extension r M [] ws d u j = 0
extension r M (g ∷ gs) ws d u j =
    multiples r M g (ws 0) d u j + extension r M gs (λ h. ws (suc h)) d (λ i. u ((moved g (polynomials r)).dim d + i)) j
