use Rattle.std.proofs.Common.{◌≡◌, take}
use Rattle.bmp_sheaf.proofs.push.copied.Given as goal

abbrev pub invariant-loop-vector : goal.invariant-loop-vector
invariant-loop-vector l = l.copy ≡ take l.vector-index l.vectors
