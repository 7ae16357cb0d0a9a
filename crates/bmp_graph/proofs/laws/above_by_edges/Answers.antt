use Rattle.bmp_graph.proofs.GraphLemmas.{IsAbove-by_edges}
use Rattle.bmp_graph.proofs.laws.above_by_edges.Goals as goal

pub returns : goal.returns
returns c = IsAbove-by_edges
