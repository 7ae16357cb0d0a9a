use Rattle.bmp_cover.proofs.CounterLemmas.{missing_not_lifted}
use Rattle.bmp_cover.proofs.examples.sections_do_not_lift_to_zero_stalk.Goals as goal

pub returns : goal.returns
returns c G is = missing_not_lifted G is
