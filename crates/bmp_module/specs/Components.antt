-- One component of a free module modulo a label.
--   component_of x    the polynomials modulo the label x, by the coefficients of the monomials without its leading
--                     variable
use Rattle.std.specs.Prelude.{suc, ◌-◌}
use Rattle.bmp_poly.specs.declared.label.Label.{Label}
use Rattle.bmp_poly.specs.Labels.{prime_of, rank_of, leading_of, coordinate_of}
use Rattle.bmp_graded.specs.Graded.{Graded}
use Rattle.bmp_graded.specs.NormalForms.{normal_by}
use Rattle.bmp_graded.specs.Quotients.{reduced}

abbrev pub component_of : Label → Graded
component_of x = reduced (rank_of x - 1) (leading_of x)
    (normal_by (prime_of x) (suc (rank_of x - 1)) (leading_of x) (coordinate_of x))
