use Rattle.bmp_graph.specs.Graph.{HasEnds}
use Rattle.bmp_graph.specs.Parts.{graph_of}
use Rattle.bmp_graph.specs.Faults.{HoldsBelow}
use Rattle.bmp_graph.proofs.parts.Parts.first_without_ends.Given as goal

-- the edges so far keep the rule
abbrev pub invariant-loop-e : goal.invariant-loop-e
invariant-loop-e l = HoldsBelow l.e (HasEnds (graph_of l.self))
