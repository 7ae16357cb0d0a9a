use Rattle.std.proofs.Common.{take}
use Rattle.bmp_math.specs.Lists.{Member}
use Rattle.bmp_roots.specs.Pairs.{pair_of, pairs_of}
use Rattle.bmp_roots.proofs.pair_tests.contains.Given as goal

abbrev pub invariant-loop-p : goal.invariant-loop-p
invariant-loop-p l = Member (pair_of l.pair) (pairs_of (take l.p-index l.pairs)) → ⊥
