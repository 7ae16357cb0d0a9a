use Rattle.bmp_sections.proofs.EquationNumbers.{equation_numbers_decide}
use Rattle.bmp_sections.proofs.laws.equation_numbers_decide.Goals as goal

pub returns : goal.returns
returns c = equation_numbers_decide
