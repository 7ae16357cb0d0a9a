use Rattle.bmp_roots.proofs.ClosingSteps.{simple_is}
use Rattle.bmp_roots.proofs.closing.simple.Goals as goal

pub returns : goal.returns
returns c = simple_is c.args.k c.requires
