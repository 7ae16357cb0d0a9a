use Rattle.std.proofs.Common.{◌≡◌, ℕ, ◌<◌, length, get_or}
use Rattle.bmp_check.specs.BlockData.{block_of}
use Rattle.bmp_check.specs.ShapedViews.{written_in}
use Rattle.bmp_check.proofs.tuple_counts.basis_counts.Given as goal

-- the vertices so far
abbrev pub invariant-vertices : goal.invariant-vertices
invariant-vertices l = record {
  sized : length l.counts.items ≡ l.x;
  each : (y : ℕ) → y < l.x → get_or l.counts.items y 0 ≡ length (block_of (written_in l.c) y l.d).kernel.basis;
}
