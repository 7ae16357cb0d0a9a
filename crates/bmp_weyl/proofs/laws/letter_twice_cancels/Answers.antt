use Rattle.bmp_weyl.proofs.SimpleLemmas.{letter_twice}
use Rattle.bmp_weyl.proofs.laws.letter_twice_cancels.Goals as goal

pub returns : goal.returns
returns c m roots system u k below = letter_twice m roots system u k below
