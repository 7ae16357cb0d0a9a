use Rattle.std.proofs.Common.{ℕ, ◌<◌}
use Rattle.bmp_check.specs.NumberedBlocks.{PassesAt}
use Rattle.bmp_check.specs.FirstRefusals.{IsOwn}
use Rattle.bmp_check.specs.Settings.{shaped_in}
use Rattle.bmp_check.specs.Shaped.{IsRoomFor}
use Rattle.bmp_check.specs.ShapedViews.{graph_in, method_at, cert_in}
use Rattle.bmp_check.proofs.kept.first_refused.Given as goal

-- the piece's blocks so far pass
abbrev pub invariant-each : goal.invariant-each
invariant-each l = record {
  passed : (k : ℕ) → k < l.block → IsOwn (shaped_in l.s) l.workers l.number k → PassesAt (shaped_in l.s) k;
  room : IsRoomFor (graph_in (shaped_in l.s)) (method_at (shaped_in l.s)) (cert_in (shaped_in l.s)) l.scratch;
}
