use Rattle.std.proofs.Common.{◌≡◌, ◌≤◌}
use Rattle.bmp_report.specs.CompareText.{comparison_of, agree_count}
use Rattle.bmp_report.proofs.compare.agreeing.Given as goal

abbrev pub invariant-vertices : goal.invariant-vertices
invariant-vertices l = (l.number ≡ agree_count (comparison_of l.r l.table) l.x) × (l.number ≤ l.x)
