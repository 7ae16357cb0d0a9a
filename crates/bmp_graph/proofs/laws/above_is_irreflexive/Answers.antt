use Rattle.bmp_graph.proofs.GraphLemmas.{IsAbove-irreflexive}
use Rattle.bmp_graph.proofs.laws.above_is_irreflexive.Goals as goal

pub returns : goal.returns
returns c = IsAbove-irreflexive
