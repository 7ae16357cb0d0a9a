use Rattle.std.proofs.Common.{◌≡◌, ℕ, ◌+◌, ◌<◌, length}
use Rattle.std.specs.Prelude.{slice_index}
use Rattle.bmp_elim.proofs.columns.shifted.Given as goal

-- the places that were passed
abbrev pub invariant-loop-k : goal.invariant-loop-k
invariant-loop-k l = record {
  one_for_each : l.from + length l.shifted ≡ l.k;
  each : (i : ℕ) → i < length l.shifted → slice_index l.places (l.from + i) ≡ l.first + slice_index l.shifted i;
}
