use Rattle.bmp_graph.specs.Parts.{graph_of}
use Rattle.bmp_graph.proofs.TableLemmas.{HasEndingsFrom}
use Rattle.bmp_graph.proofs.parts.Parts.endings.Given as goal

-- the edges from this one on are threaded
abbrev pub invariant-loop-e : goal.invariant-loop-e
invariant-loop-e l = HasEndingsFrom (graph_of l.self) l.e l.first.items l.next.items
