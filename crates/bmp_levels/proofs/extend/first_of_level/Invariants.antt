use Rattle.std.proofs.Common.{ℕ, ◌<◌}
use Rattle.bmp_graph.specs.Graph.{length_at}
use Rattle.bmp_levels.proofs.extend.first_of_level.Given as goal

-- the vertices so far are shorter
abbrev pub invariant-loop-y : goal.invariant-loop-y
invariant-loop-y l = (y : ℕ) → y < l.y → length_at l.graph y < l.k
