use Rattle.bmp_weyl.proofs.ExchangeLemmas.{length_zero}
use Rattle.bmp_weyl.proofs.laws.length_zero_is_identity.Goals as goal

pub returns : goal.returns
returns c m roots system u letters none = length_zero m roots system u letters none
