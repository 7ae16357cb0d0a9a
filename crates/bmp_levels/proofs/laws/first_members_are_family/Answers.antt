use Rattle.bmp_levels.proofs.Families.{prefixes_are_families}
use Rattle.bmp_levels.proofs.laws.first_members_are_family.Goals as goal

pub returns : goal.returns
returns c = prefixes_are_families
