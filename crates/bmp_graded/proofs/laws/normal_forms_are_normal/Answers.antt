use Rattle.bmp_graded.proofs.PassLaws.{normal_forms_are_normal}
use Rattle.bmp_graded.proofs.laws.normal_forms_are_normal.Goals as goal

pub returns : goal.returns
returns c = normal_forms_are_normal
