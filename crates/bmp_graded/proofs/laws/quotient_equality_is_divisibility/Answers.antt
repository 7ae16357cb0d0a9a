use Rattle.bmp_graded.proofs.Congruences.{same_modulo}
use Rattle.bmp_graded.proofs.laws.quotient_equality_is_divisibility.Goals as goal

pub returns : goal.returns
returns c = same_modulo
