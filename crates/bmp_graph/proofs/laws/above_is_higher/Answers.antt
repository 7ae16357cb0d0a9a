use Rattle.bmp_graph.proofs.GraphLemmas.{IsAbove-higher}
use Rattle.bmp_graph.proofs.laws.above_is_higher.Goals as goal

pub returns : goal.returns
returns c = IsAbove-higher
