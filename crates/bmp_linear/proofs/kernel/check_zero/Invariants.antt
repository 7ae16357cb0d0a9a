use Rattle.std.proofs.Common.{◌+◌, length}
use Rattle.bmp_linear.specs.Faults.{WithIndex}
use Rattle.bmp_linear.specs.KernelChecks.{ComparesZero}
use Rattle.bmp_linear.proofs.FaultLemmas.{PassBelow}
use Rattle.bmp_linear.proofs.kernel.check_zero.Given as goal

-- the rows so far say 0
abbrev pub invariant-loop-i : goal.invariant-loop-i
invariant-loop-i g l =
    PassBelow (length l.e.basis + l.i) (WithIndex l.index (ComparesZero (g.F.Field.size l.f) (g.A.Rows.matrix l.a) l.e))
