use Rattle.bmp_sections.proofs.EquationLemmas.{equations_decide}
use Rattle.bmp_sections.proofs.laws.equations_decide.Goals as goal

pub returns : goal.returns
returns c = equations_decide
