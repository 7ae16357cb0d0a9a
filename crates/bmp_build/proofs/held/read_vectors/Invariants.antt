use Rattle.std.proofs.Common.{[]}
use Rattle.bmp_build.proofs.HeldLemmas.{HoldsUpTo, IsHeldVector}
use Rattle.bmp_build.proofs.held.read_vectors.Given as goal

-- the vectors so far
abbrev pub invariant-each : goal.invariant-each
invariant-each l = HoldsUpTo IsHeldVector [] l.vectors l.i
