use Rattle.std.proofs.Common.{◌-◌}
use Rattle.bmp_field.proofs.RunLemmas.{IsAddedSoFar}
use Rattle.bmp_field.proofs.multiples.subtract_once.Given as goal

-- the multiples are added at the places so far
abbrev pub invariant-loop-j : goal.invariant-loop-j
invariant-loop-j l = IsAddedSoFar l.p (l.p - 1) l.from l.j l.fn.into l.into
