use Rattle.bmp_packed.proofs.WordLemmas.{IsMadeBelow, with_bits}
use Rattle.bmp_packed.proofs.words.add_bits.Given as goal

-- the bits are added to the numbers so far
abbrev pub invariant-loop-j : goal.invariant-loop-j
invariant-loop-j l = IsMadeBelow (with_bits l.fn.numbers l.word) l.j l.fn.numbers l.numbers
