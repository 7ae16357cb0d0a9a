use Rattle.std.proofs.Common.{◌<◌, ◌≤ℤ◌, ℕ, pos}
use Rattle.bmp_roots.specs.Pairs.{coordinates}
use Rattle.bmp_weyl.specs.Matrices.{image}
use Rattle.bmp_weyl.proofs.matrix.makes_negative.Given as goal

abbrev pub invariant-loop-i : goal.invariant-loop-i
invariant-loop-i l = (j : ℕ) → j < l.i → pos 0 ≤ℤ image l.entries (coordinates l.v) j
