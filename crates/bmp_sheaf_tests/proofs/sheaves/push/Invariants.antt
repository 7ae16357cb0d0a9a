use Rattle.std.proofs.Common.{ℕ, ◌<◌, [], get_or}
use Rattle.bmp_linear.specs.SparseVectors.{ValuesBelow}
use Rattle.bmp_sheaf_tests.proofs.sheaves.push.Given as goal

-- the values so far are below the prime
abbrev pub invariant-loop-lift : goal.invariant-loop-lift
invariant-loop-lift g l = (k : ℕ) → k < l.lift-index → ValuesBelow (get_or l.lifts k []) l.prime
