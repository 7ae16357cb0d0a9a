use Rattle.std.proofs.Common.{◌<◌, ◌≤ℤ◌, ℕ, pos}
use Rattle.bmp_weyl.specs.Matrices.{cell}
use Rattle.bmp_weyl.proofs.elem.Elem.is_right_descent.Given as goal

abbrev pub invariant-loop-i : goal.invariant-loop-i
invariant-loop-i l = (j : ℕ) → j < l.i → pos 0 ≤ℤ cell l.self.entries j l.column
