use Rattle.bmp_weyl.proofs.SimpleLemmas.{times_is}
use Rattle.bmp_weyl.proofs.laws.times_is_product.Goals as goal

pub returns : goal.returns
returns c m roots system u x k below is = times_is m roots system u x k below is
