use Rattle.std.proofs.Common.{◌≡◌, take}
use Rattle.bmp_interval.proofs.interval.letters.Given as goal

abbrev pub invariant-loop-letter : goal.invariant-loop-letter
invariant-loop-letter l = l.letters ≡ take l.letter-index l.word
