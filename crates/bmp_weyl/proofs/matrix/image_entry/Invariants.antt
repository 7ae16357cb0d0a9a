use Rattle.std.proofs.Common.{◌≡◌, ◌*◌, ◌*ℤ◌}
use Rattle.bmp_math.specs.Integers.{IsWithin}
use Rattle.bmp_math.specs.IntegerSums.{integer_sum}
use Rattle.bmp_roots.specs.Pairs.{coordinates}
use Rattle.bmp_weyl.specs.Matrices.{cell}
use Rattle.bmp_weyl.proofs.matrix.image_entry.Given as goal

abbrev pub invariant-loop-l : goal.invariant-loop-l
invariant-loop-l l = (l.sum ≡ integer_sum (λ k. coordinates l.v k *ℤ cell l.entries l.i k) l.l) ×
    IsWithin (1024 * l.l) l.sum
