use Rattle.std.proofs.Common.{ℕ, ◌%◌, ◌<◌, ◌≤◌, get_or}
use Rattle.bmp_levels.proofs.sums.are_multiples.Given as goal

-- no remainder so far is greater
abbrev pub invariant-loop-sum : goal.invariant-loop-sum
invariant-loop-sum l = (j : ℕ) → j < l.sum-index → get_or l.sums j 0 % l.p ≤ l.greatest
