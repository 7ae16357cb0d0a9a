use Rattle.bmp_math.specs.Matrices.{Matrix}
use Rattle.bmp_elim.specs.Eliminations.{IsEvidenceOf, IsReducedOf}
use Rattle.bmp_elim.proofs.kernels.kernel.Goals as goal

pub returns : goal.returns
returns g c =
    let p = g.F.Field.size c.args.f.now in
    let old : Matrix = g.A.Rows.matrix c.args.a.now in
    let e = c.in_ok-eliminated.eliminated in
    let reduced : IsReducedOf p old (g.A.Rows.matrix e.rows) (g.A.Rows.matrix e.trace) e.pivots =
    rw (← c.in_ok-rows.ensures) c.in_ok-eliminated.ensures in
    let made : IsEvidenceOf p old c.in_ok-evidence.evidence = c.in_ok-evidence.ensures old reduced in
    record {
      fits = made.fits;
      values = made.below;
      passes = made.passes;
      kernel = made.kernel;
      independent = made.independent;
      spans = made.spans;
    }
