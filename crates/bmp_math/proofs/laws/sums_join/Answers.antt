use Rattle.bmp_math.proofs.SumLemmas.{sum_below_joined}
use Rattle.bmp_math.proofs.laws.sums_join.Goals as goal

pub returns : goal.returns
returns c = sum_below_joined
