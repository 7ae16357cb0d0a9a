use Rattle.std.specs.List.{All}
use Rattle.bmp_poly.specs.Coefficients.{form}
use Rattle.bmp_poly.specs.Labels.{coordinate_of}
use Rattle.bmp_poly.proofs.Reducing.{ReducedBelow}
use Rattle.bmp_poly.proofs.label.Label.reduce_coefficients.Given as goal

abbrev pub invariant-loop-i : goal.invariant-loop-i
invariant-loop-i g l = record {
  values : All (g.F.Field.is_value l.f) l.coefficients;
  reduced : ReducedBelow (g.F.Field.size l.f) 6 l.self.rank l.degree (coordinate_of l.self) l.self.leading l.i
      (form (g.F.Field.num l.f) l.self.rank l.fn.coefficients) (form (g.F.Field.num l.f) l.self.rank l.coefficients);
}
