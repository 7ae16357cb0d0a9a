use Rattle.std.proofs.Common.{◌+◌, ◌-◌, arith}
use Rattle.std.specs.Fmt.{signed_decimal}
use Rattle.bmp_text.proofs.PrintingLoops.{range_words_on}
use Rattle.bmp_weyl.specs.Matrices.{cell}
use Rattle.bmp_report.proofs.graph.push_row.Goals as goal

pub columns-preserved : goal.columns-preserved
columns-preserved c =
    rw c.in_ok-push_entry.ensures
    (range_words_on (λ j. signed_decimal (cell c.args.e.now.entries c.args.i j)) c.columns.out.items _ c.columns.j
    (c.args.rank - c.columns.j) (c.args.rank - (c.columns.j + 1)) (omega arith) c.columns.invariant)
