use Rattle.bmp_levels.proofs.Families.{families_are_counted}
use Rattle.bmp_levels.proofs.laws.families_are_counted.Goals as goal

pub returns : goal.returns
returns c = families_are_counted
