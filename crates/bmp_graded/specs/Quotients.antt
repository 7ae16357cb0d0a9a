-- Free modules modulo a linear form, by the coordinates of normal forms: the coefficients of the monomials
-- without the leading variable. In their order these are the monomials in one variable fewer.
--   insert l m            one variable more at l, with the exponent 0
--   remove l m            one variable fewer, the one at l
--   pure_form r l v       the polynomial in r + 1 variables without the l-th whose coefficients are v
--   reduced r l normal    the polynomials in r + 1 variables modulo a linear form whose leading variable is the
--                         l-th, where `normal d` makes normal forms in degree d
--   quotient p r l c gs   the free module with generators of degrees gs, in r + 1 variables, modulo the linear form c
use Rattle.std.specs.Prelude.{ℕ, zero, suc, cond, List, [], ◌∷◌, slice_index}
use Rattle.std.proofs.Common.{eqb}
use Rattle.bmp_poly.specs.Exponents.{count, place, exponents}
use Rattle.bmp_poly.specs.Forms.{Form}
use Rattle.bmp_poly.specs.Shifts.{shift}
use Rattle.bmp_graded.specs.Graded.{Graded}
use Rattle.bmp_graded.specs.Modules.{copies}
use Rattle.bmp_graded.specs.NormalForms.{normal_by}

unfoldable pub insert : ℕ → List ℕ → List ℕ
insert zero m = 0 ∷ m
insert (suc l) [] = []
insert (suc l) (x ∷ m) = x ∷ insert l m

unfoldable pub remove : ℕ → List ℕ → List ℕ
remove l [] = []
remove zero (x ∷ m) = m
remove (suc l) (x ∷ m) = x ∷ remove l m

abbrev pub pure_form : ℕ → ℕ → (ℕ → ℕ) → Form
pure_form r l v e = cond (eqb (slice_index e l) 0) (v (place r (remove l e))) 0

unfoldable pub reduced : ℕ → ℕ → (ℕ → Form → Form) → Graded
reduced r l normal =
    record { dim = count r; act = λ m d t v i. normal t (shift m (pure_form r l v)) (insert l (exponents 5 r t i)) }

abbrev pub quotient : ℕ → ℕ → ℕ → (ℕ → ℕ) → List ℕ → Graded
quotient p r l c gs = copies (reduced r l (normal_by p (suc r) l c)) gs
