use Rattle.bmp_sections.proofs.AboveLemmas.{above_is_tested}
use Rattle.bmp_sections.proofs.laws.above_is_tested.Goals as goal

pub returns : goal.returns
returns c = above_is_tested
