use Rattle.std.proofs.Common.{◌≡◌, length}
use Rattle.std.specs.List.{All}
use Rattle.bmp_poly.proofs.poly.zeros.Given as goal

abbrev pub invariant-loop : goal.invariant-loop
invariant-loop g l = record {
  sized : length l.coefficients.items ≡ l.counter;
  values : All (g.F.Field.is_value l.f) l.coefficients.items;
  zero : All (λ c. g.F.Field.num l.f c ≡ 0) l.coefficients.items;
}
