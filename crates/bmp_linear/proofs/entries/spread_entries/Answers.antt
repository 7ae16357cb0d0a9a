use Rattle.bmp_linear.proofs.SparseLemmas.{written_more}
use Rattle.bmp_linear.proofs.entries.spread_entries.Goals as goal

pub loop-entry-preserved : goal.loop-entry-preserved
loop-entry-preserved c =
    written_more c.args.entries.now c.loop-entry.into c.loop-entry.entry-index _
    c.requires.sparse.rising c.loop-entry-test.true c.loop-entry.invariant
