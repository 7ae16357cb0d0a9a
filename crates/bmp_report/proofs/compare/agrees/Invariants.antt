use Rattle.std.proofs.Common.{◌≡◌}
use Rattle.bmp_report.specs.CompareText.{comparison_of, agrees_below}
use Rattle.bmp_report.proofs.compare.agrees.Given as goal

abbrev pub invariant-degrees : goal.invariant-degrees
invariant-degrees l = l.agree ≡ agrees_below (comparison_of l.r l.table) l.x l.d
