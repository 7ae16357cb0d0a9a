use Rattle.std.proofs.Common.{get_or}
use Rattle.bmp_packed.proofs.WordLemmas.{HasRowBitsBelow}
use Rattle.bmp_packed.proofs.row_words.write_numbers.Given as goal

-- the bits of the words so far are the numbers
abbrev pub invariant-loop-k : goal.invariant-loop-k
invariant-loop-k l = HasRowBitsBelow (λ j. get_or l.numbers j 0) l.k l.fn.words l.words
