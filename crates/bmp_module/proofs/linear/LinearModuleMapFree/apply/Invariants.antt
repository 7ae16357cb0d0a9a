use Rattle.std.proofs.Common.{◌≡◌}
use Rattle.bmp_poly.specs.Coefficients.{coefficient}
use Rattle.bmp_module.specs.Images.{image_coordinates}
use Rattle.bmp_module.proofs.Extending.{Extended}
use Rattle.bmp_module.proofs.linear.LinearModuleMapFree.apply.Given as goal

abbrev pub invariant-loop-h : goal.invariant-loop-h
invariant-loop-h g l = record {
  element : g.N.GradedModule.is_element l.fn.self.into.now l.fn.f l.total;
  degree : g.N.GradedModule.degree l.fn.self.into.now l.total ≡ l.fn.e.degree;
  extended : Extended (g.F.Field.size l.fn.f) l.fn.self.from.now.rank (g.N.GradedModule.graded l.fn.self.into.now)
      l.fn.self.from.now.degrees.items
      (image_coordinates (g.N.GradedModule.coordinate l.fn.self.into.now l.fn.f) l.fn.self.images.now) l.fn.e.degree
      (coefficient (g.F.Field.num l.fn.f) l.fn.e.numbers.items)
      (g.N.GradedModule.coordinate l.fn.self.into.now l.fn.f l.total) l.h l.start;
}
