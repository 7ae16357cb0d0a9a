use Rattle.bmp_graph.specs.Graph.{edge_count}
use Rattle.bmp_graph.proofs.GkmLemmas.{IsSearchingPair, left_of}
use Rattle.bmp_graph.proofs.graph.MomentGraph.gkm_at.Given as goal

-- no edge so far is parallel to a later one
abbrev pub invariant-loop-next : goal.invariant-loop-next
invariant-loop-next l = IsSearchingPair l.self l.x l.next

abbrev pub decreases-loop-next : goal.decreases-loop-next
decreases-loop-next l = left_of (edge_count l.self) l.next
