use Rattle.std.proofs.Common.{ℕ, ◌<◌, [], get_or}
use Rattle.bmp_linear.specs.SparseVectors.{ValuesBelow}
use Rattle.bmp_linear.proofs.evidence.are_below.Given as goal

-- the values so far are below p
abbrev pub invariant-loop-vector : goal.invariant-loop-vector
invariant-loop-vector l = (k : ℕ) → k < l.vector-index → ValuesBelow (get_or l.vector-items k []) l.p
