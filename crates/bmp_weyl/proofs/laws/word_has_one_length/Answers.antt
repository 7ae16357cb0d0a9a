use Rattle.bmp_weyl.proofs.OneLength.{one_length}
use Rattle.bmp_weyl.proofs.laws.word_has_one_length.Goals as goal

pub returns : goal.returns
returns c = one_length
