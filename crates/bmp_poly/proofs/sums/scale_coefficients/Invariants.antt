use Rattle.std.proofs.Common.{◌*◌, ◌%◌}
use Rattle.bmp_poly.specs.Coefficients.{coefficient}
use Rattle.bmp_poly.proofs.CoefficientLemmas.{WrittenBelow}
use Rattle.bmp_poly.proofs.sums.scale_coefficients.Given as goal

abbrev pub invariant-loop-i : goal.invariant-loop-i
invariant-loop-i g l =
    WrittenBelow (g.F.Field.is_value l.f) (g.F.Field.num l.f)
    (λ j. (g.F.Field.num l.f l.c * coefficient (g.F.Field.num l.f) l.fn.multiples j) % g.F.Field.size l.f)
    l.fn.multiples l.multiples l.i
