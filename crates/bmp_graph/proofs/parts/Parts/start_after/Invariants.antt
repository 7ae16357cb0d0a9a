use Rattle.std.proofs.Common.{ℕ, ◌<◌, ◌≤◌, ◌-◌}
use Rattle.bmp_graph.specs.Graph.{edge_count, lower}
use Rattle.bmp_graph.specs.Parts.{graph_of}
use Rattle.bmp_graph.proofs.parts.Parts.start_after.Given as goal

-- the edges so far start below the vertex
abbrev pub invariant-loop-start : goal.invariant-loop-start
invariant-loop-start l =
    (l.start ≤ edge_count (graph_of l.self)) × ((e : ℕ) → e < l.start → lower (graph_of l.self) e < l.vertex)

abbrev pub decreases-loop-start : goal.decreases-loop-start
decreases-loop-start l = edge_count (graph_of l.self) - l.start
