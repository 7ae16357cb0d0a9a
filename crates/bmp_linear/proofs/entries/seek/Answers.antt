use Rattle.std.proofs.Common.{arith}
use Rattle.bmp_linear.proofs.MergeLemmas.{passed_more}
use Rattle.bmp_linear.proofs.entries.seek.Goals as goal

pub loop-at-preserved : goal.loop-at-preserved
loop-at-preserved c = (
  omega arith,
  passed_more c.args.entries.now c.loop-at.at c.args.place _ c.loop-at-test.true c.if-entries-at.true
      c.loop-at.invariant.1,
)
