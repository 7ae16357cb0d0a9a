use Rattle.bmp_check.proofs.BlockLemmas.{blocks_numbered}
use Rattle.bmp_check.proofs.laws.blocks_are_numbered.Goals as goal

pub returns : goal.returns
returns c = blocks_numbered
