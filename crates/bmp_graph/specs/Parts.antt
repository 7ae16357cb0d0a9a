-- The parts of which a graph is made.
--   graph_of p    the graph that has these parts
use Rattle.bmp_graph.specs.Graph.{Graph}
use Rattle.bmp_graph.specs.declared.parts.Parts.{Parts}

-- the graph that has these parts
abbrev pub graph_of : Parts → Graph
graph_of p = record { rank = p.rank; prime = p.prime; lengths = p.lengths.now; edges = p.edges.now }
