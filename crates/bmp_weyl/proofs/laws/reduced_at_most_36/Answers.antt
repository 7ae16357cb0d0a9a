use Rattle.std.proofs.Common.{arith}
use Rattle.bmp_weyl.proofs.LengthLemmas.{length_at_most_36}
use Rattle.bmp_weyl.proofs.laws.reduced_at_most_36.Goals as goal

pub returns : goal.returns
returns c m roots system u letters reduced = omega (arith, length_at_most_36 m roots system u, reduced)
