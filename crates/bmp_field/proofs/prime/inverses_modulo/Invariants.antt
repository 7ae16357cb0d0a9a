use Rattle.std.proofs.Common.{◌≡◌, ◌≢◌, ℕ, ◌<◌, length}
use Rattle.std.specs.Prelude.{slice_index}
use Rattle.bmp_field.specs.Tables.{IsInverse}
use Rattle.bmp_field.proofs.prime.inverses_modulo.Given as goal

-- the inverses of the numbers below `a` stand
abbrev pub invariant-loop-a : goal.invariant-loop-a
invariant-loop-a l = (length l.inverses ≡ 61) × ((k : ℕ) → k < l.a → k ≢ 0 → IsInverse l.p k (slice_index l.inverses k))
