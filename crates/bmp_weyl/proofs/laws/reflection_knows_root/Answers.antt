use Rattle.bmp_weyl.proofs.ReflectionLemmas.{reflection_knows_root}
use Rattle.bmp_weyl.proofs.laws.reflection_knows_root.Goals as goal

pub returns : goal.returns
returns c m roots system p q hp hq pp pq same = reflection_knows_root m roots system p q hp hq pp pq same
