use Rattle.bmp_build.proofs.AllPassing as lemmas
use Rattle.bmp_build.proofs.laws.built_parts_pass.Goals as goal

pub returns : goal.returns
returns g c = lemmas.built_parts_pass
