use Rattle.std.proofs.Common.{◌≡◌, ◌*◌, ◌≤◌, ◌*ℤ◌}
use Rattle.bmp_math.specs.Integers.{IsWithin}
use Rattle.bmp_math.specs.IntegerSums.{integer_sum}
use Rattle.bmp_roots.specs.RootPairs.{entry}
use Rattle.bmp_roots.specs.Pairs.{coordinates}
use Rattle.bmp_roots.proofs.reflection.row_value.Given as goal

abbrev pub invariant-loop-j : goal.invariant-loop-j
invariant-loop-j l =
    (l.sum ≡ integer_sum (λ j. entry l.cartan l.k j *ℤ coordinates l.v j) l.j) × IsWithin (1024 * l.j) l.sum ×
    (l.rank ≡ l.cartan.rank) × (l.rank ≤ 6)
