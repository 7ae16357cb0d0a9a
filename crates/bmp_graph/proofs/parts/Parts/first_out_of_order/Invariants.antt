use Rattle.bmp_graph.specs.Parts.{graph_of}
use Rattle.bmp_graph.specs.Faults.{HoldsBelow, KeepsOrder}
use Rattle.bmp_graph.proofs.parts.Parts.first_out_of_order.Given as goal

-- the edges so far keep the rule
abbrev pub invariant-loop-e : goal.invariant-loop-e
invariant-loop-e l = HoldsBelow l.e (KeepsOrder (graph_of l.self))
