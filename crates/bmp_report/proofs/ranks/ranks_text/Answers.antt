use Rattle.std.proofs.Common.{◌+◌, ◌-◌, arith}
use Rattle.bmp_cert.specs.Counts.{rank_in}
use Rattle.bmp_report.specs.RankLines.{rank_line}
use Rattle.bmp_text.proofs.PrintingLoops.{range_on}
use Rattle.bmp_report.proofs.ranks.ranks_text.Goals as goal

pub vertices-preserved : goal.vertices-preserved
vertices-preserved c =
    rw c.in_ok-push_line.ensures
    (range_on (rank_line c.args.r.now.degree (rank_in c.args.r.now)) c.vertices.out.items _ c.vertices.x
    (c.args.r.now.vertices - c.vertices.x) (c.args.r.now.vertices - (c.vertices.x + 1))
    (omega (arith, c.vertices-x-end.ensures)) c.vertices.invariant)
