use Rattle.bmp_weyl.proofs.LoweredLemmas.{lowered_kept}
use Rattle.bmp_weyl.proofs.laws.lowered_is_kept.Goals as goal

pub returns : goal.returns
returns c m roots system word w u letters lowered product = lowered_kept system word w letters lowered product
