use Rattle.std.proofs.Common.{◌≡◌, ℕ, ◌+◌, ◌%◌, ◌<◌, length, take, get_or}
use Rattle.bmp_levels.specs.Agreement.{AreWithin, signed_sum}
use Rattle.bmp_levels.specs.Runs.{run_value}
use Rattle.bmp_levels.proofs.agree.add_row.Given as goal

-- the entries so far are added
abbrev pub invariant-loop-entry : goal.invariant-loop-entry
invariant-loop-entry l = record {
  added :
      (j : ℕ) → j < length l.fn.sums →
      get_or l.sums j 0 % l.p
      ≡ (get_or l.fn.sums j 0 + signed_sum l.minus l.p (take l.entry-index l.row) (run_value l.run j)) % l.p;
  within : AreWithin l.room l.sums;
  sums : length l.sums ≡ length l.fn.sums;
}
