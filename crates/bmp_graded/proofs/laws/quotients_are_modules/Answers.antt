use Rattle.bmp_graded.proofs.PassLaws.{quotients_are_modules}
use Rattle.bmp_graded.proofs.laws.quotients_are_modules.Goals as goal

pub returns : goal.returns
returns c = quotients_are_modules
