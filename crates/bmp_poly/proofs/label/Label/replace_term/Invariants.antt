use Rattle.std.proofs.Common.{◌<◌, ◌≤◌}
use Rattle.bmp_poly.specs.Forms.{lowered}
use Rattle.bmp_poly.specs.Labels.{coordinate_of}
use Rattle.bmp_poly.proofs.Multiples.{AddingMultiple}
use Rattle.bmp_poly.proofs.Replacing.{StepAt}
use Rattle.bmp_poly.proofs.label.Label.replace_term.Given as goal

-- the terms of the variables before k are added, and the step stands at the variable before k
abbrev pub invariant-loop-k : goal.invariant-loop-k
invariant-loop-k g l = record {
  after : l.self.leading < l.k;
  within : l.k ≤ l.self.rank;
  step : StepAt l.self.rank (lowered l.self.leading l.e) l.k l.later l.rest;
  adding : AddingMultiple (g.F.Field.is_value l.f) (g.F.Field.num l.f) (g.F.Field.size l.f) 6 l.self.rank l.degree
      (coordinate_of l.self) (g.F.Field.num l.f l.factor) (lowered l.self.leading l.e) l.fn.coefficients l.coefficients
      l.k;
}
