use Rattle.bmp_weyl.proofs.LengthLemmas.{length_at_most, length_parity}
use Rattle.bmp_weyl.proofs.laws.length_at_most_letters.Goals as goal

pub returns : goal.returns
returns c m roots system u letters = (length_at_most m roots system u letters, length_parity m roots system u letters)
