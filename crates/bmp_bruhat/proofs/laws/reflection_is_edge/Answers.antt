use Rattle.bmp_bruhat.proofs.EdgeLemmas.{reflection_is_edge}
use Rattle.bmp_bruhat.proofs.laws.reflection_is_edge.Goals as goal

pub returns : goal.returns
returns c m roots system = reflection_is_edge m roots system
