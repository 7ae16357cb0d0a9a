use Rattle.std.proofs.Common.{◌≡◌, ℕ, ◌<◌, ◌↔◌, true, false, length, get_or}
use Rattle.bmp_graph.specs.Graph.{length_at}
use Rattle.bmp_sections.proofs.upper_set.UpperSet.longer.Given as goal

-- the vertices so far are tested
abbrev pub invariant-loop-y : goal.invariant-loop-y
invariant-loop-y l = record {
  counted : length l.tests.items ≡ l.y;
  tested : (z : ℕ) → z < l.y → ((get_or l.tests.items z false ≡ true) ↔ (l.l < length_at l.graph z));
}
