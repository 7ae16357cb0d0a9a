use Rattle.bmp_graded.proofs.GradedLemmas.{free_is_module}
use Rattle.bmp_graded.proofs.laws.free_modules_are_modules.Goals as goal

pub returns : goal.returns
returns c = free_is_module
