use Rattle.std.proofs.Common.{◌+◌, length}
use Rattle.bmp_linear.specs.KernelChecks.{KernelCompares}
use Rattle.bmp_linear.proofs.FaultLemmas.{PassBefore}
use Rattle.bmp_linear.proofs.kernel.check_parts.Given as goal

-- the basis vectors so far passed
abbrev pub invariant-loop-index : goal.invariant-loop-index
invariant-loop-index g l = PassBefore l.index (KernelCompares (g.F.Field.size l.f) (g.A.Rows.matrix l.a) l.e)

-- the combinations so far passed
abbrev pub invariant-loop-index-2 : goal.invariant-loop-index-2
invariant-loop-index-2 g l =
    PassBefore (length l.e.basis + l.index) (KernelCompares (g.F.Field.size l.f) (g.A.Rows.matrix l.a) l.e)
