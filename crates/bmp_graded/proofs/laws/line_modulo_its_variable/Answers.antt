use Rattle.std.proofs.Common.{refl}
use Rattle.bmp_math.specs.Sums.{sum_below}
use Rattle.bmp_poly.specs.Exponents.{count}
use Rattle.bmp_graded.specs.Modules.{moved, nothing, both, copies}
use Rattle.bmp_graded.specs.Quotients.{reduced}
use Rattle.bmp_graded.proofs.laws.line_modulo_its_variable.Goals as goal

pub returns : goal.returns
unfolding sum_below count moved nothing both copies reduced
returns c = (refl, refl, refl)
