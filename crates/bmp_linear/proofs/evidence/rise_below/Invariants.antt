use Rattle.bmp_linear.proofs.ShapeLemmas.{RisesSoFar}
use Rattle.bmp_linear.proofs.evidence.rise_below.Given as goal

-- the places so far rise, and the next is to be `least` or more
abbrev pub invariant-loop-place : goal.invariant-loop-place
invariant-loop-place l = RisesSoFar l.place-items l.n l.place-index l.least
