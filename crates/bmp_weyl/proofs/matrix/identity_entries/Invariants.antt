use Rattle.std.proofs.Common.{◌≡◌, ◌<◌, ◌/◌, ◌%◌, ℕ, pos, length, get_or}
use Rattle.bmp_math.specs.IntegerSums.{integer_unit}
use Rattle.bmp_weyl.proofs.matrix.identity_entries.Given as goal

abbrev pub invariant-loop-place : goal.invariant-loop-place
invariant-loop-place l =
    (length l.entries ≡ 36) × ((q : ℕ) → q < l.place → get_or l.entries q (pos 0) ≡ integer_unit (q % 6) (q / 6))
