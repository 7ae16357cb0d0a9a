use Rattle.bmp_weyl.proofs.CallLemmas.{root_system}
use Rattle.bmp_weyl.proofs.laws.roots_are_system.Goals as goal

pub returns : goal.returns
returns c = root_system
