use Rattle.bmp_graph.proofs.GraphLemmas.{IsAbove-trans}
use Rattle.bmp_graph.proofs.laws.above_is_transitive.Goals as goal

pub returns : goal.returns
returns c = IsAbove-trans
