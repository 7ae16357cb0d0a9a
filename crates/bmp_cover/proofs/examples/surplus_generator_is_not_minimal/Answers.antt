use Rattle.bmp_cover.proofs.ExampleLemmas.{surplus_not_minimal}
use Rattle.bmp_cover.proofs.examples.surplus_generator_is_not_minimal.Goals as goal

pub returns : goal.returns
returns c G is = surplus_not_minimal G is
