use Rattle.std.proofs.Common.{◌≡◌, ℕ, ◌<◌, length, get_or, take}
use Rattle.bmp_linear.specs.SparseVectors.{number_at}
use Rattle.bmp_linear.proofs.entries.spread_entries.Given as goal

-- the entries so far are written
abbrev pub invariant-loop-entry : goal.invariant-loop-entry
invariant-loop-entry l =
    (j : ℕ) → j < length l.into → get_or l.into j 0 ≡ number_at (take l.entry-index l.entries) j
