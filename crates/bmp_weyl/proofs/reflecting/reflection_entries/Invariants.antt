use Rattle.std.proofs.Common.{◌≡◌, ◌<◌, ◌/◌, ◌%◌, ℕ, pos, length, get_or}
use Rattle.bmp_math.specs.IntegerSums.{integer_unit}
use Rattle.bmp_roots.specs.RootPairs.{across}
use Rattle.bmp_roots.specs.Pairs.{root_pair}
use Rattle.bmp_weyl.proofs.reflecting.reflection_entries.Given as goal

abbrev pub invariant-loop-place : goal.invariant-loop-place
invariant-loop-place l =
    (length l.entries ≡ 36) ×
    ((q : ℕ) → q < l.place → get_or l.entries q (pos 0) ≡ across l.cartan (root_pair l.root l.coroot)
    (integer_unit (q % 6)) (q / 6))
