use Rattle.std.proofs.Common.{◌≡◌, ℕ, ◌<◌, length, get_or}
use Rattle.bmp_stalk.specs.BuiltParts.{no_family}
use Rattle.bmp_build.proofs.level.counts_of.Given as goal

-- the numbers so far
abbrev pub invariant-each : goal.invariant-each
invariant-each l = (length l.counts.items ≡ l.d)
    × ((k : ℕ) → k < l.d → get_or l.counts.items k 0 ≡ (get_or l.families k no_family).count)
