use Rattle.bmp_weyl.proofs.CallLemmas.{unit_written}
use Rattle.bmp_weyl.proofs.elem.unit_vector.Goals as goal

pub returns : goal.returns
returns c = unit_written c.args.k c.requires
