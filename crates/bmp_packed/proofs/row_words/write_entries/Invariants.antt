use Rattle.std.proofs.Common.{length, take}
use Rattle.bmp_linear.specs.SparseVectors.{number_at}
use Rattle.bmp_packed.proofs.WordLemmas.{HasRowBitsBelow}
use Rattle.bmp_packed.proofs.row_words.write_entries.Given as goal

-- the bits are the numbers of the entries so far
abbrev pub invariant-loop-entry : goal.invariant-loop-entry
invariant-loop-entry l =
    HasRowBitsBelow (number_at (take l.entry-index l.entries)) (length l.fn.words) l.fn.words l.words
