use Rattle.bmp_graded.proofs.GradedLemmas.{direct_sum_is_module}
use Rattle.bmp_graded.proofs.laws.direct_sums_are_modules.Goals as goal

pub returns : goal.returns
returns c = direct_sum_is_module
