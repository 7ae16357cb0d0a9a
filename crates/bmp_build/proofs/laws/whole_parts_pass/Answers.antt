use Rattle.bmp_build.proofs.WholePassing as lemmas
use Rattle.bmp_build.proofs.laws.whole_parts_pass.Goals as goal

pub returns : goal.returns
returns g c = lemmas.whole_parts_pass
