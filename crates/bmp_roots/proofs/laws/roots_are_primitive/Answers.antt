use Rattle.bmp_roots.proofs.PairLemmas.{primitive_root}
use Rattle.bmp_roots.proofs.laws.roots_are_primitive.Goals as goal

pub returns : goal.returns
returns c m form n big = primitive_root m form n big
