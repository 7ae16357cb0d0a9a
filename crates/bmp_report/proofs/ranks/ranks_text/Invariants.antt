use Rattle.std.proofs.Common.{◌≡◌, ◌++◌, ◌-◌}
use Rattle.bmp_text.specs.Printing.{range_text}
use Rattle.bmp_cert.specs.Counts.{rank_in}
use Rattle.bmp_report.specs.RankLines.{rank_line, table_lines}
use Rattle.bmp_report.proofs.ranks.ranks_text.Given as goal

abbrev pub invariant-vertices : goal.invariant-vertices
invariant-vertices l = l.out.items ++ range_text (rank_line l.r.degree (rank_in l.r)) l.x (l.r.vertices - l.x)
    ≡ table_lines l.r
