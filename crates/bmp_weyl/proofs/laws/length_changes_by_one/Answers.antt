use Rattle.bmp_weyl.proofs.LengthLemmas.{length_step}
use Rattle.bmp_weyl.proofs.laws.length_changes_by_one.Goals as goal

pub returns : goal.returns
returns c m roots system u k letters l = length_step m roots system u letters k l
