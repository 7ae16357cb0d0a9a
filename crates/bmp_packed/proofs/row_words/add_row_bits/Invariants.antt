use Rattle.bmp_packed.proofs.WordLemmas.{AreRowBitsAddedBelow}
use Rattle.bmp_packed.proofs.row_words.add_row_bits.Given as goal

-- the bits of the words so far are added
abbrev pub invariant-loop-k : goal.invariant-loop-k
invariant-loop-k l = AreRowBitsAddedBelow l.words l.k l.fn.numbers l.numbers
