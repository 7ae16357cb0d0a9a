use Rattle.std.proofs.Common.{refl}
use Rattle.bmp_sheaf.proofs.RowLemmas.{row_none, row_passed, row_more}
use Rattle.bmp_sheaf.proofs.edge_maps.fill_row.Goals as goal
use Rattle.bmp_sheaf.proofs.edge_maps.fill_row.Goals.{then-value-ne0+in_ok-push, else-value-ne0}

pub loop-j-init : goal.loop-j-init
loop-j-init c = rw c.clear.ensures (row_none c.args.rows c.args.i c.args.columns.now)

pub loop-j-preserved : goal.loop-j-preserved
loop-j-preserved c = elim c.if-value-ne0.branch [
  | then-value-ne0+in_ok-push w ↦ rw (w.row-is, w.in_ok-push.ensures.ok)
      (row_more c.args.rows c.args.i c.args.columns.now c.loop-j.j c.loop-j.row _ c.loop-j.invariant refl refl)
  | else-value-ne0 w ↦ rw w.row-is
      (row_passed c.args.rows c.args.i c.args.columns.now c.loop-j.j c.loop-j.row c.loop-j.invariant
      w.if-value-ne0.false)
]
