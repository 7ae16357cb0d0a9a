use Rattle.std.proofs.Common.{take}
use Rattle.bmp_check.specs.Sizes.{each_at_most}
use Rattle.bmp_check.proofs.SizeCheckLemmas.{Passed}
use Rattle.bmp_check.proofs.size_check.SizeCheck.each_at_most.Given as goal

-- the vectors so far have passed
abbrev pub invariant-vectors : goal.invariant-vectors
invariant-vectors l = Passed l.initial.self l.self (take l.i (each_at_most l.vectors l.most))
