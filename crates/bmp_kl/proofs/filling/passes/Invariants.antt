use Rattle.std.proofs.Common.{◌<◌, ◌≤◌, ◌+◌, ℕ, pos, get_or}
use Rattle.std.specs.Int.RustNames.{unsigned_abs}
use Rattle.bmp_kl.proofs.filling.passes.Given as goal

abbrev pub invariant-loop-e : goal.invariant-loop-e
invariant-loop-e l = (k : ℕ) → 0 < k → k < l.e → unsigned_abs (get_or l.row (72 + k) (pos 0)) ≤ unsigned_abs l.fn.limit
