use Rattle.std.proofs.Common.{◌≡◌, ℕ, ◌<◌, [], length}
use Rattle.std.specs.Prelude.{slice_index, slice_index_or}
use Rattle.bmp_stalk.specs.Blocks.{one_at}
use Rattle.bmp_stalk.proofs.choice.sources_of.Given as goal

-- the tuples that were passed
abbrev pub invariant-loop-place : goal.invariant-loop-place
invariant-loop-place l = record {
  counted : length l.sources ≡ l.place-index;
  each : (i : ℕ) → i < l.place-index → slice_index_or l.sources i [] ≡ one_at (slice_index l.place-items i);
}
