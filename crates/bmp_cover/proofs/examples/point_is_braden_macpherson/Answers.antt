use Rattle.bmp_cover.proofs.ExampleLemmas.{point}
use Rattle.bmp_cover.proofs.examples.point_is_braden_macpherson.Goals as goal

pub returns : goal.returns
returns c = point
