use Rattle.bmp_cover.proofs.CounterLemmas.{missing_minimal}
use Rattle.bmp_cover.proofs.examples.zero_stalk_is_minimal.Goals as goal

pub returns : goal.returns
returns c G d is = missing_minimal G is d
