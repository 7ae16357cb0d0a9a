use Rattle.bmp_cover.proofs.CounterLemmas.{split_not_reached}
use Rattle.bmp_cover.proofs.examples.split_generators_are_not_reached.Goals as goal

pub returns : goal.returns
returns c G is = split_not_reached G is
