use Rattle.bmp_levels.proofs.CarriedBases.{bases_carry}
use Rattle.bmp_levels.proofs.laws.bases_carry.Goals as goal

pub returns : goal.returns
returns c = bases_carry
