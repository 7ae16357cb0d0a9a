use Rattle.bmp_graph.specs.Parts.{graph_of}
use Rattle.bmp_graph.proofs.TableLemmas.{HasStartsBefore}
use Rattle.bmp_graph.proofs.parts.Parts.starts.Given as goal

-- the starts so far stand, and the next edge comes after them
abbrev pub invariant-loop-vertex : goal.invariant-loop-vertex
invariant-loop-vertex l = HasStartsBefore (graph_of l.self) l.vertex l.start l.starts.items
