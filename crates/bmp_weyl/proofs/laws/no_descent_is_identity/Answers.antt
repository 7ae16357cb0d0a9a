use Rattle.bmp_weyl.proofs.DescentLemmas.{no_descent}
use Rattle.bmp_weyl.proofs.laws.no_descent_is_identity.Goals as goal

pub returns : goal.returns
returns c m roots system u letters never = no_descent m roots system u letters never
