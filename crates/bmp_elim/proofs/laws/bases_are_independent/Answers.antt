use Rattle.bmp_linear.proofs.KernelSpans.{kernel_independent}
use Rattle.bmp_elim.proofs.laws.bases_are_independent.Goals as goal

pub returns : goal.returns
returns g c = kernel_independent (g.F.Field.size c.args.f.now)
