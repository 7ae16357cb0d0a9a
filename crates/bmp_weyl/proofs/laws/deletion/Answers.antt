use Rattle.bmp_weyl.proofs.ExchangeLemmas.{deletion}
use Rattle.bmp_weyl.proofs.laws.deletion.Goals as goal

pub returns : goal.returns
returns c m roots system u letters shorter = deletion m roots system u letters shorter
