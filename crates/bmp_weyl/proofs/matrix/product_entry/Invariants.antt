use Rattle.std.proofs.Common.{◌≡◌, ◌*◌, ◌*ℤ◌}
use Rattle.bmp_math.specs.Integers.{IsWithin}
use Rattle.bmp_math.specs.IntegerSums.{integer_sum}
use Rattle.bmp_weyl.specs.Matrices.{cell}
use Rattle.bmp_weyl.proofs.matrix.product_entry.Given as goal

abbrev pub invariant-loop-l : goal.invariant-loop-l
invariant-loop-l l = (l.sum ≡ integer_sum (λ k. cell l.x l.i k *ℤ cell l.y k l.j) l.l) × IsWithin (1024 * l.l) l.sum
