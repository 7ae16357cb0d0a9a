use Rattle.std.proofs.Common.{◌<◌, ◌<ℤ◌, ℕ, pos}
use Rattle.bmp_roots.specs.Pairs.{coordinates}
use Rattle.bmp_roots.proofs.pair_tests.has_below.Given as goal

abbrev pub invariant-loop-x : goal.invariant-loop-x
invariant-loop-x l = (j : ℕ) → j < l.x-index → coordinates l.v j <ℤ pos 0 → ⊥
