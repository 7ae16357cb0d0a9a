use Rattle.bmp_poly.specs.Coefficients.{form}
use Rattle.std.proofs.Common.{◌+◌}
use Rattle.bmp_poly.proofs.Multiplying.{ShiftAdded}
use Rattle.bmp_poly.proofs.product.add_shifted.Given as goal

abbrev pub invariant-loop-j : goal.invariant-loop-j
invariant-loop-j g l =
    ShiftAdded (g.F.Field.is_value l.f) (g.F.Field.num l.f) (g.F.Field.size l.f) l.listed.rank
    (l.degree + l.listed.degree) (g.F.Field.num l.f l.c) l.m (form (g.F.Field.num l.f) l.listed.rank l.others) l.fn.sums
    l.sums l.j
