use Rattle.std.proofs.Common.{◌≡◌, ◌≤◌}
use Rattle.bmp_poly.specs.Exponents.{count, level}
use Rattle.bmp_poly.proofs.monomials.level.Given as goal

abbrev pub invariant-loop-j : goal.invariant-loop-j
invariant-loop-j l = (level (count l.n) l.i l.d ≡ level (count l.n) l.i l.j) × (l.j ≤ 6)

abbrev pub decreases-loop-j : goal.decreases-loop-j
decreases-loop-j l = l.j
