use Rattle.bmp_cover.proofs.ExampleLemmas.{line}
use Rattle.bmp_cover.proofs.examples.line_is_braden_macpherson.Goals as goal

pub returns : goal.returns
returns c G most is = line G is most
