use Rattle.std.proofs.Common.{◌+◌, ◌-◌, arith}
use Rattle.bmp_report.specs.GraphText.{row_words}
use Rattle.bmp_report.proofs.MatrixLemmas.{range_lists_on}
use Rattle.bmp_report.proofs.graph.push_matrix.Goals as goal

pub rows-preserved : goal.rows-preserved
rows-preserved c =
    rw c.in_ok-push_row.ensures
    (range_lists_on (row_words c.args.rank c.args.e.now) c.rows.out.items _ c.rows.i (c.args.rank - c.rows.i)
    (c.args.rank - (c.rows.i + 1)) (omega arith) c.rows.invariant)
