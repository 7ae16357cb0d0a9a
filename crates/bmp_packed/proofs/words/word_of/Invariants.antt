use Rattle.bmp_packed.proofs.WordLemmas.{HasBitsBelow}
use Rattle.bmp_packed.proofs.words.word_of.Given as goal

-- the numbers so far are bits
abbrev pub invariant-loop-j : goal.invariant-loop-j
invariant-loop-j l = HasBitsBelow l.numbers l.j l.word
