use Rattle.std.proofs.Common.{◌≡◌, take}
use Rattle.bmp_report.proofs.sample.letters_of.Given as goal

abbrev pub invariant-letters : goal.invariant-letters
invariant-letters l = l.letters ≡ take l.i l.word
