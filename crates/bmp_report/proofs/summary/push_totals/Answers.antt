use Rattle.std.proofs.Common.{◌+◌, ◌-◌, arith}
use Rattle.std.specs.Fmt.{decimal}
use Rattle.bmp_cert.specs.Counts.{rank_in}
use Rattle.bmp_text.proofs.PrintingLoops.{range_words_on}
use Rattle.bmp_report.specs.SummaryText.{total}
use Rattle.bmp_report.proofs.summary.push_totals.Goals as goal

pub degrees-preserved : goal.degrees-preserved
degrees-preserved c =
    rw (c.in_ok-push_number.ensures.ok, c.total.ensures)
    (range_words_on (λ d. decimal (total (rank_in c.args.r.now) c.args.r.now.vertices d)) c.degrees.out.items _
    c.degrees.d (c.degree-bound.result + 1 - c.degrees.d) (c.degree-bound.result + 1 - (c.degrees.d + 1)) (omega arith)
    c.degrees.invariant)
