use Rattle.std.proofs.Common.{ℕ, ◌<◌}
use Rattle.bmp_sheaf.specs.StalkFaults.{LiftFits}
use Rattle.bmp_sheaf.proofs.sheaf.Sheaf.check_lifts.Given as goal

abbrev pub invariant-loop-i : goal.invariant-loop-i
invariant-loop-i g l = (k : ℕ) → k < l.i → LiftFits l.self l.x l.degrees l.lifts k
