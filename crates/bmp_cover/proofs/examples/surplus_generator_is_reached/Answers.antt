use Rattle.bmp_cover.proofs.ExampleLemmas.{surplus_reached}
use Rattle.bmp_cover.proofs.examples.surplus_generator_is_reached.Goals as goal

pub returns : goal.returns
returns c G d is = surplus_reached G is d
