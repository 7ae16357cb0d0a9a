use Rattle.bmp_elim.proofs.RowVectorLemmas.{row_vectors_more}
use Rattle.bmp_elim.proofs.row_vectors.row_vectors.Goals as goal

pub loop-row-preserved : goal.loop-row-preserved
loop-row-preserved g c =
    rw c.in_ok-push.ensures.ok
    (row_vectors_more (g.F.Field.size c.args.f.now) (g.A.Rows.matrix c.args.a.now) c.args.from c.loop-row.row
    c.loop-row.vectors c.read_row.new.vector c.loop-row.invariant c.in_ok-read_row.ensures)
