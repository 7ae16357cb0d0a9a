use Rattle.bmp_cover.proofs.CounterLemmas.{missing_reached}
use Rattle.bmp_cover.proofs.examples.zero_stalk_is_reached.Goals as goal

pub returns : goal.returns
returns c G d is = missing_reached G is d
