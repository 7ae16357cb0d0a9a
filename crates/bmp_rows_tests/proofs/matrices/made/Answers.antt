use Rattle.bmp_linear.proofs.RowChangeLemmas.{numbers_below-none}
use Rattle.bmp_rows_tests.proofs.matrices.made.Goals as goal

pub loop-row-init : goal.loop-row-init
loop-row-init g c = numbers_below-none _ _ c.requires

pub loop-row-preserved : goal.loop-row-preserved
loop-row-preserved g c = c.in_ok-push_row.ensures.numbers c.loop-row.invariant
