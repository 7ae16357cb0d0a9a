use Rattle.std.proofs.Common.{map}
use Rattle.std.specs.Arc.{arc_value}
use Rattle.bmp_sheaf.proofs.UpperTableLemmas.{UppersBefore}
use Rattle.bmp_sheaf.proofs.sheaf.Sheaf.uppers_up.Given as goal

abbrev pub invariant-loop-e : goal.invariant-loop-e
invariant-loop-e g l = UppersBefore l.self l.first l.e (map arc_value l.uppers.items)
