use Rattle.bmp_graph.proofs.GraphLemmas.{edge_rises}
use Rattle.bmp_graph.proofs.laws.edges_rise.Goals as goal

pub returns : goal.returns
returns c = edge_rises
