use Rattle.bmp_weyl.proofs.SimpleLemmas.{times_twice}
use Rattle.bmp_weyl.proofs.laws.times_twice_cancels.Goals as goal

pub returns : goal.returns
returns c m roots system x k below element = times_twice m roots system x k below element
