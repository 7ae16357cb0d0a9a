use Rattle.std.proofs.Common.{◌≡◌, ℕ, ◌%◌, ◌<◌, ◌≤◌, length, get_or}
use Rattle.bmp_levels.proofs.sums.reduce.Given as goal

-- the sums so far are replaced, the later ones are as they were
abbrev pub invariant-loop-sum : goal.invariant-loop-sum
invariant-loop-sum l = record {
  reduced : (j : ℕ) → j < l.sum-index → get_or l.sums j 0 ≡ get_or l.fn.sums j 0 % l.p;
  kept : (j : ℕ) → l.sum-index ≤ j → get_or l.sums j 0 ≡ get_or l.fn.sums j 0;
  sums : length l.sums ≡ length l.fn.sums;
}
