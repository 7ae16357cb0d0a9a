use Rattle.bmp_check.proofs.PassLemmas.{none_fails}
use Rattle.bmp_check.proofs.laws.none_fails_beside_passes.Goals as goal

pub returns : goal.returns
returns c = none_fails
