use Rattle.bmp_linear.proofs.FaultLemmas.{on_ok}
use Rattle.bmp_linear.proofs.KernelSpans.{kernel_spans, kernel_independent, basis_in_kernel}
use Rattle.bmp_linear.proofs.kernel.check_kernel.Goals as goal

pub returns-clause-kernel : goal.returns-clause-kernel
returns-clause-kernel g c =
    on_ok c.check_parts.result _ _
    (basis_in_kernel (g.F.Field.size c.args.f.now) (g.A.Rows.matrix c.args.a.now) c.args.e.now)
    c.check_parts.ensures.ok

pub returns-clause-spans : goal.returns-clause-spans
returns-clause-spans g c =
    on_ok c.check_parts.result _ _
    (kernel_spans (g.F.Field.size c.args.f.now) (g.A.Rows.matrix c.args.a.now) c.args.e.now
    (g.met.F.Field.laws.at_least_two c.args.f.now) c.requires.fits) c.check_parts.ensures.ok

pub returns-clause-independent : goal.returns-clause-independent
returns-clause-independent g c =
    on_ok c.check_parts.result _ _
    (kernel_independent (g.F.Field.size c.args.f.now) (g.A.Rows.matrix c.args.a.now) c.args.e.now c.requires.fits)
    c.check_parts.ensures.ok
