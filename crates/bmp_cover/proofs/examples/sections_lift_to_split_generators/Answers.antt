use Rattle.bmp_cover.proofs.CounterLemmas.{split_lifted}
use Rattle.bmp_cover.proofs.examples.sections_lift_to_split_generators.Goals as goal

pub returns : goal.returns
returns c G d is = split_lifted G is d
