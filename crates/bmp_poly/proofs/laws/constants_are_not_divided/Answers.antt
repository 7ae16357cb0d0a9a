use Rattle.bmp_poly.proofs.LawLemmas.{constant_divided}
use Rattle.bmp_poly.proofs.laws.constants_are_not_divided.Goals as goal

pub returns : goal.returns
returns c = constant_divided
