use Rattle.std.proofs.Common.{◌<◌, ℕ, get_or}
use Rattle.bmp_kl.proofs.steps.Steps.shorter_than.Given as goal

abbrev pub invariant-loop-x : goal.invariant-loop-x
invariant-loop-x l = (y : ℕ) → y < l.x → get_or l.self.lengths.items y 0 < l.level
