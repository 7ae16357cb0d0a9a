use Rattle.bmp_stalk.proofs.AboveLemmas.{equation_blocks_pass}
use Rattle.bmp_stalk.proofs.laws.equation_blocks_pass.Goals as goal

pub returns : goal.returns
returns g c = equation_blocks_pass
