use Rattle.bmp_field.proofs.RunLemmas.{IsAddedSoFar}
use Rattle.bmp_field.proofs.multiples.add_products.Given as goal

-- the multiples are added at the places so far
abbrev pub invariant-loop-j : goal.invariant-loop-j
invariant-loop-j l = IsAddedSoFar l.p l.c l.from l.j l.fn.into l.into
