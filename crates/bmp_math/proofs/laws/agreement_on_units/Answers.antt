use Rattle.bmp_math.proofs.VectorLemmas.{agree_on_all}
use Rattle.bmp_math.proofs.laws.agreement_on_units.Goals as goal

pub returns : goal.returns
returns c = agree_on_all
