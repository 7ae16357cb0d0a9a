use Rattle.bmp_math.proofs.MatrixLemmas.{combination-combination}
use Rattle.bmp_math.proofs.laws.combinations_compose.Goals as goal

pub returns : goal.returns
returns c = combination-combination
