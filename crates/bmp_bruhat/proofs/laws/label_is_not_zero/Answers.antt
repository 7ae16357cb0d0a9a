use Rattle.bmp_bruhat.proofs.EdgeLemmas.{label_is_not_zero}
use Rattle.bmp_bruhat.proofs.laws.label_is_not_zero.Goals as goal

pub returns : goal.returns
returns c = label_is_not_zero
