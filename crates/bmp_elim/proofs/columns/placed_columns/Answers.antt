use Rattle.bmp_elim.proofs.KeptColumnLemmas.{placed_columns_more}
use Rattle.bmp_elim.proofs.columns.placed_columns.Goals as goal

pub loop-column-preserved : goal.loop-column-preserved
loop-column-preserved g c = rw c.in_ok-push.ensures.ok (placed_columns_more c.loop-column.vectors
    c.in_ok-placed_column.field-0 c.loop-column.invariant c.in_ok-placed_column.ensures)
