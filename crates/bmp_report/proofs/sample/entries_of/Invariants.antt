use Rattle.std.proofs.Common.{◌≡◌, take}
use Rattle.bmp_report.proofs.sample.entries_of.Given as goal

abbrev pub invariant-rows : goal.invariant-rows
invariant-rows l = l.entries ≡ take l.i l.rows
