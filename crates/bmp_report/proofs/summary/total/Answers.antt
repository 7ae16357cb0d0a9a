use Rattle.std.proofs.Common.{◌<◌, ◌∙◌, sym, rules, arith}
use Rattle.bmp_math.proofs.SumLemmas.{sum_below-zero}
use Rattle.bmp_cert.specs.Counts.{rank_in}
use Rattle.bmp_report.proofs.SummaryLemmas.{total_on}
use Rattle.bmp_report.proofs.summary.total.Goals as goal

pub vertices-init : goal.vertices-init
vertices-init c = (sym (sum_below-zero (λ x. rank_in c.args.r.now x c.args.d)), omega arith)

pub vertices-preserved : goal.vertices-preserved
vertices-preserved c =
    let fits : c.count.result < 4294967296 = search rules in (
      total_on (rank_in c.args.r.now) c.args.d c.vertices.x c.vertices.sum c.from-sum.result c.vertices.invariant.0
          (c.from-sum.ensures ∙ c.count.ensures),
      omega (arith, c.vertices.invariant.1, c.from-sum.ensures, fits),
    )
