use Rattle.std.proofs.Common.{◌<◌, ℕ}
use Rattle.bmp_math.specs.Integers.{IsWithin}
use Rattle.bmp_roots.specs.Pairs.{coordinates}
use Rattle.bmp_roots.proofs.pair_tests.is_small_vector.Given as goal

abbrev pub invariant-loop-x : goal.invariant-loop-x
invariant-loop-x l = (j : ℕ) → j < l.x-index → IsWithin 32 (coordinates l.v j)
