use Rattle.bmp_weyl.proofs.ExchangeLemmas.{exchange}
use Rattle.bmp_weyl.proofs.laws.exchange.Goals as goal

pub returns : goal.returns
returns c m roots system u k letters l descent = exchange m roots system u k letters l descent
