-- Graded modules that are built from others.
--   polynomials r     the polynomials in r variables; coordinates are coefficients in the order of the monomials
--   moved g M         M with its elements of degree d in degree d + g
--   nothing           the module with no element but 0
--   both A B          the direct sum of A and B; coordinates are those of A, then those of B
--   copies X gs       the direct sum of X moved by each of the degrees gs
--   free r gs         the free module in r variables with a generator of each of the degrees gs
--   direct_sum Ms     the direct sum of the modules Ms
use Rattle.std.specs.Prelude.{ℕ, ◌+◌, ◌-◌, cond, List, [], ◌∷◌}
use Rattle.std.proofs.Common.{leb, ltb}
use Rattle.bmp_poly.specs.Exponents.{count, place, exponents}
use Rattle.bmp_poly.specs.Shifts.{shift}
use Rattle.bmp_graded.specs.Graded.{Graded}

unfoldable pub polynomials : ℕ → Graded
polynomials r = record { dim = count r; act = λ m d t v i. shift m (λ e. v (place r e)) (exponents 6 r t i) }

unfoldable pub moved : ℕ → Graded → Graded
moved g M = record {
  dim = λ d. cond (leb g d) (M.dim (d - g)) 0;
  act = λ m d t v i. cond (leb g d) (M.act m (d - g) (t - g) v i) 0;
}

unfoldable pub nothing : Graded
nothing = record { dim = λ d. 0; act = λ m d t v i. 0 }

unfoldable pub both : Graded → Graded → Graded
both A B = record {
  dim = λ d. A.dim d + B.dim d;
  act = λ m d t v i. cond (ltb i (A.dim t)) (A.act m d t v i) (B.act m d t (λ j. v (A.dim d + j)) (i - A.dim t));
}

unfoldable pub copies : Graded → List ℕ → Graded
copies X [] = nothing
copies X (g ∷ gs) = both (moved g X) (copies X gs)

abbrev pub free : ℕ → List ℕ → Graded
free r gs = copies (polynomials r) gs

unfoldable pub direct_sum : List Graded → Graded
direct_sum [] = nothing
direct_sum (M ∷ Ms) = both M (direct_sum Ms)
