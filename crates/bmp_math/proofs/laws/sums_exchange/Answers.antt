use Rattle.bmp_math.proofs.SumLemmas.{sum_below-swap}
use Rattle.bmp_math.proofs.laws.sums_exchange.Goals as goal

pub returns : goal.returns
returns c = sum_below-swap
