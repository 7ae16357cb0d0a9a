use Rattle.bmp_sheaf.proofs.RuleLemmas.{HasRisen}
use Rattle.bmp_sheaf.proofs.rules.first_fall.Given as goal

abbrev pub invariant-loop-i : goal.invariant-loop-i
invariant-loop-i l = HasRisen l.degrees l.i l.before
