use Rattle.std.proofs.Common.{ℕ, ◌<◌}
use Rattle.bmp_interval.specs.IntervalViews.{system_of, vertices_of}
use Rattle.bmp_bruhat.specs.Edges.{IsEdgeOfRoot}
use Rattle.bmp_bruhat.proofs.graph.root_of.Given as goal

-- no root so far is that of the edge
abbrev pub invariant-loop-i : goal.invariant-loop-i
invariant-loop-i l =
    (j : ℕ) → j < l.i → IsEdgeOfRoot (system_of l.interval) (vertices_of l.interval) l.edge.lower l.edge.upper j → ⊥
