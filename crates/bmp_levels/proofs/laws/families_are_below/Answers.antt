use Rattle.bmp_levels.proofs.Below.{families_are_below}
use Rattle.bmp_levels.proofs.laws.families_are_below.Goals as goal

pub returns : goal.returns
returns c = families_are_below
