use Rattle.bmp_linear.proofs.GatherLemmas.{IsGathered}
use Rattle.bmp_linear.proofs.vector.Vector.set_numbers.Given as goal

-- the numbers so far
abbrev pub invariant-loop-place : goal.invariant-loop-place
invariant-loop-place l = IsGathered l.numbers l.place l.self
