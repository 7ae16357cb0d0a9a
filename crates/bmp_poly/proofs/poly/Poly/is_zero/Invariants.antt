use Rattle.std.proofs.Common.{◌≡◌, ℕ, ◌<◌, get_or}
use Rattle.bmp_poly.proofs.poly.Poly.is_zero.Given as goal

abbrev pub invariant-loop-i : goal.invariant-loop-i
invariant-loop-i g l = (k : ℕ) (x : g.row.F-E.Denot) → k < l.i → g.F.Field.num l.f (get_or l.self.coefficients k x) ≡ 0
