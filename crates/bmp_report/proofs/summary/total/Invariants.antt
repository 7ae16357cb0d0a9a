use Rattle.std.proofs.Common.{◌≡◌, ◌≤◌, ◌*◌}
use Rattle.bmp_cert.specs.Counts.{rank_in}
use Rattle.bmp_report.specs.SummaryText.{total}
use Rattle.bmp_report.proofs.summary.total.Given as goal

abbrev pub invariant-vertices : goal.invariant-vertices
invariant-vertices l = (l.sum ≡ total (rank_in l.r) l.x l.d) × (l.sum ≤ l.x * 4294967295)
