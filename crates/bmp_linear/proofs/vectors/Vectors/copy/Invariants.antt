use Rattle.std.proofs.Common.{◌≡◌, take}
use Rattle.bmp_linear.proofs.vectors.Vectors.copy.Given as goal

-- the vectors so far are copied
abbrev pub invariant-loop-vector : goal.invariant-loop-vector
invariant-loop-vector l = l.copy ≡ take l.vector-index l.vector-items
