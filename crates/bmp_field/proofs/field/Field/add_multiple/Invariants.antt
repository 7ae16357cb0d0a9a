use Rattle.bmp_field.proofs.RunLemmas.{IsAddedSoFar}
use Rattle.bmp_field.proofs.field.Field.add_multiple.Given as goal

-- the multiples are added at the places so far
abbrev pub invariant-loop-j : goal.invariant-loop-j
invariant-loop-j g l = IsAddedSoFar (g.Self.Field.size l.self) (g.Self.Field.num l.self l.c) l.from l.j l.fn.into l.into
