use Rattle.bmp_weyl.proofs.OneLength.{one_element_length}
use Rattle.bmp_weyl.proofs.laws.element_has_one_length.Goals as goal

pub returns : goal.returns
returns c = one_element_length
