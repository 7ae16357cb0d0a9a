use Rattle.bmp_bruhat.proofs.OneGraph.{one_graph}
use Rattle.bmp_bruhat.proofs.laws.graph_is_one.Goals as goal

pub returns : goal.returns
returns c = one_graph
