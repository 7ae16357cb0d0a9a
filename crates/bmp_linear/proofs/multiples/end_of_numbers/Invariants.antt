use Rattle.std.proofs.Common.{◌≡◌, ℕ, ◌<◌, ◌≤◌, length, slice_index}
use Rattle.bmp_linear.proofs.multiples.end_of_numbers.Given as goal

-- the numbers behind `end` are 0
abbrev pub invariant-loop-end : goal.invariant-loop-end
invariant-loop-end l =
    (l.start ≤ l.end) × (l.end ≤ length l.numbers)
    × ((j : ℕ) → l.end ≤ j → j < length l.numbers → slice_index l.numbers j ≡ 0)

abbrev pub decreases-loop-end : goal.decreases-loop-end
decreases-loop-end l = l.end
