use Rattle.std.proofs.Common.{◌-◌, ◌%◌, get_or}
use Rattle.bmp_poly.specs.Exponents.{exponents}
use Rattle.bmp_poly.specs.Coefficients.{form}
use Rattle.bmp_graded.specs.NormalForms.{normal_by}
use Rattle.bmp_graded.specs.Quotients.{insert}
use Rattle.bmp_module.specs.Appended.{IsAppended}
use Rattle.bmp_module.proofs.normal.push_normal.Given as goal

abbrev pub invariant-loop-i : goal.invariant-loop-i
invariant-loop-i g l =
    IsAppended (g.F.Field.is_value l.fn.f) (g.F.Field.num l.fn.f) l.fn.numbers.items l.numbers.items l.i
    (λ i. normal_by l.fn.label.prime l.fn.label.rank l.fn.label.leading (λ k. get_or l.fn.label.coords k 0) l.fn.degree
    (form (g.F.Field.num l.fn.f) l.fn.label.rank l.fn.coefficients)
    (insert l.fn.label.leading (exponents 5 (l.fn.label.rank - 1) l.fn.degree i)) % g.F.Field.size l.fn.f)
