use Rattle.bmp_graph.specs.Parts.{graph_of}
use Rattle.bmp_graph.proofs.TableLemmas.{FillsRow}
use Rattle.bmp_graph.proofs.parts.Parts.fill_row.Given as goal

-- the row has what the edges so far reach
abbrev pub invariant-loop-e : goal.invariant-loop-e
invariant-loop-e l = FillsRow (graph_of l.self) l.vertex l.from l.e l.rows
