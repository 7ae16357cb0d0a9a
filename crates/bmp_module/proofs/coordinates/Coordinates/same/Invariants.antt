use Rattle.std.proofs.Common.{◌≡◌, ◌<◌, ℕ}
use Rattle.bmp_poly.specs.Coefficients.{coefficient}
use Rattle.bmp_module.proofs.coordinates.Coordinates.same.Given as goal

abbrev pub invariant-loop-i : goal.invariant-loop-i
invariant-loop-i g l =
    (j : ℕ) → j < l.i → coefficient (g.F.Field.num l.f) l.self.numbers.items j
    ≡ coefficient (g.F.Field.num l.f) l.other.numbers.items j
