use Rattle.bmp_packed.proofs.WordLemmas.{bit_set}
use Rattle.bmp_packed.proofs.words.with_bit.Goals as goal

pub returns : goal.returns
returns c = bit_set c.args.word c.args.k c.requires
