use Rattle.bmp_weyl.proofs.ExchangeLemmas.{reduced_subsequence}
use Rattle.bmp_weyl.proofs.laws.reduced_subsequence.Goals as goal

pub returns : goal.returns
returns c m roots system u letters = reduced_subsequence m roots system u letters
