use Rattle.bmp_math.proofs.MatrixLemmas.{dot-combination}
use Rattle.bmp_math.proofs.laws.forms_move.Goals as goal

pub returns : goal.returns
returns c = dot-combination
