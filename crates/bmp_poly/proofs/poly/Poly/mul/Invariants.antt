use Rattle.bmp_poly.specs.Polynomials.{form_of}
use Rattle.bmp_poly.proofs.Multiplying.{ProductBelow}
use Rattle.bmp_poly.proofs.poly.Poly.mul.Given as goal

abbrev pub invariant-loop-i : goal.invariant-loop-i
invariant-loop-i g l =
    ProductBelow (g.F.Field.is_value l.f) (g.F.Field.num l.f) (g.F.Field.size l.f) l.self.rank l.self.degree
    l.other.degree (form_of (g.F.Field.num l.f) l.self) (form_of (g.F.Field.num l.f) l.other) l.coefficients.items l.i
