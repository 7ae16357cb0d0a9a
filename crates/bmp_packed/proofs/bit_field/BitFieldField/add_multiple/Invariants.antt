use Rattle.bmp_field.proofs.RunLemmas.{IsAddedSoFar}
use Rattle.bmp_packed.proofs.bit_field.BitFieldField.add_multiple.Given as goal

-- the multiples are added at the places so far
abbrev pub invariant-loop-j : goal.invariant-loop-j
invariant-loop-j l = IsAddedSoFar 2 l.c l.from l.j l.fn.into l.into
