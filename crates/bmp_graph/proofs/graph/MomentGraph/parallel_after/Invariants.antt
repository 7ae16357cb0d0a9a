use Rattle.bmp_graph.specs.Graph.{edge_count}
use Rattle.bmp_graph.proofs.GkmLemmas.{IsSearchingPartner, left_of}
use Rattle.bmp_graph.proofs.graph.MomentGraph.parallel_after.Given as goal

-- no edge so far is parallel
abbrev pub invariant-loop-next : goal.invariant-loop-next
invariant-loop-next l = IsSearchingPartner l.self l.x l.first l.next

abbrev pub decreases-loop-next : goal.decreases-loop-next
decreases-loop-next l = left_of (edge_count l.self) l.next
