use Rattle.std.proofs.Common.{◌≡◌, ◌*◌, ◌≤◌, ◌*ℤ◌}
use Rattle.bmp_math.specs.Integers.{IsWithin}
use Rattle.bmp_math.specs.IntegerSums.{integer_sum}
use Rattle.bmp_roots.specs.RootPairs.{entry}
use Rattle.bmp_roots.specs.Pairs.{coordinates}
use Rattle.bmp_weyl.proofs.reflecting.coroot_value.Given as goal

abbrev pub invariant-loop-i : goal.invariant-loop-i
invariant-loop-i l =
    (l.sum ≡ integer_sum (λ i. coordinates l.coroot i *ℤ entry l.cartan i l.j) l.i) × IsWithin (1024 * l.i) l.sum ×
    (l.rank ≡ l.cartan.rank) × (l.rank ≤ 6)
