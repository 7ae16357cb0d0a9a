use Rattle.bmp_bruhat.proofs.EdgeLemmas.{edge_is_unique}
use Rattle.bmp_bruhat.proofs.laws.edge_is_unique.Goals as goal

pub returns : goal.returns
returns c m roots system = edge_is_unique m roots system
