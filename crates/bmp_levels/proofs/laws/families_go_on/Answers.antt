use Rattle.bmp_levels.proofs.GoingOn.{families_go_on}
use Rattle.bmp_levels.proofs.laws.families_go_on.Goals as goal

pub returns : goal.returns
returns c = families_go_on
