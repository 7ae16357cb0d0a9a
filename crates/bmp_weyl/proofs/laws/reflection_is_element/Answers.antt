use Rattle.bmp_weyl.proofs.ReflectionLemmas.{reflection_is_element}
use Rattle.bmp_weyl.proofs.laws.reflection_is_element.Goals as goal

pub returns : goal.returns
returns c m roots system q is = reflection_is_element m roots system q is
