use Rattle.bmp_weyl.proofs.SimpleLemmas.{times_turns}
use Rattle.bmp_weyl.proofs.laws.descent_turns.Goals as goal

pub returns : goal.returns
returns c m roots system x k below element = times_turns m roots system x k below element
