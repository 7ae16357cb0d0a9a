use Rattle.bmp_graph.specs.Parts.{graph_of}
use Rattle.bmp_graph.specs.Faults.{HoldsBelow, KeepsLength}
use Rattle.bmp_graph.proofs.parts.Parts.first_fall.Given as goal

-- the vertices so far keep the rule
abbrev pub invariant-loop-x : goal.invariant-loop-x
invariant-loop-x l = HoldsBelow l.x (KeepsLength (graph_of l.self))
