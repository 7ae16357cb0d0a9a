use Rattle.bmp_graph.specs.Parts.{graph_of}
use Rattle.bmp_graph.specs.Tables.{HasRowsFrom}
use Rattle.bmp_graph.proofs.parts.Parts.rows_above.Given as goal

-- the rows from this vertex on are filled
abbrev pub invariant-loop-vertex : goal.invariant-loop-vertex
invariant-loop-vertex l = HasRowsFrom (graph_of l.self) l.vertex l.rows
