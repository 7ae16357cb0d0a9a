use Rattle.bmp_cover.proofs.ExampleLemmas.{surplus_lifted}
use Rattle.bmp_cover.proofs.examples.sections_lift_beside_surplus_generator.Goals as goal

pub returns : goal.returns
returns c G d is = surplus_lifted G is d
