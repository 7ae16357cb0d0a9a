use Rattle.std.proofs.Common.{arith}
use Rattle.bmp_roots.proofs.ClosingSteps.{row_done}
use Rattle.bmp_roots.proofs.closing.grow_row.Goals as goal

pub returns-clause-before : goal.returns-clause-before
returns-clause-before c =
    row_done c.args.cartan.now c.loop-k.list c.args.i c.loop-k.k (omega arith) c.loop-k.invariant.1
