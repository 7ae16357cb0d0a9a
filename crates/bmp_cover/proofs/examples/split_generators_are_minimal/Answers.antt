use Rattle.bmp_cover.proofs.CounterLemmas.{split_minimal}
use Rattle.bmp_cover.proofs.examples.split_generators_are_minimal.Goals as goal

pub returns : goal.returns
returns c G d is = split_minimal G is d
