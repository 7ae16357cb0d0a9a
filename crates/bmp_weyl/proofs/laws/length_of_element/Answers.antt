use Rattle.bmp_weyl.proofs.ElementLemmas.{element_length-product}
use Rattle.bmp_weyl.proofs.laws.length_of_element.Goals as goal

pub returns : goal.returns
returns c m roots system u e h = element_length-product m roots system u e h
