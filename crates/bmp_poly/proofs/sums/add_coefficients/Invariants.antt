use Rattle.bmp_poly.proofs.CoefficientLemmas.{AddedBelow}
use Rattle.bmp_poly.proofs.sums.add_coefficients.Given as goal

abbrev pub invariant-loop-i : goal.invariant-loop-i
invariant-loop-i g l =
    AddedBelow (g.F.Field.is_value l.f) (g.F.Field.num l.f) (g.F.Field.size l.f) l.fn.sums l.others l.sums l.i
