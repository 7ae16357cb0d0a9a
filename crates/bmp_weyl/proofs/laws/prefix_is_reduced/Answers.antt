use Rattle.bmp_weyl.proofs.ExchangeLemmas.{prefix_reduced}
use Rattle.bmp_weyl.proofs.laws.prefix_is_reduced.Goals as goal

pub returns : goal.returns
returns c m roots system u letters reduced n = prefix_reduced m roots system u letters reduced n
