use Rattle.bmp_math.specs.Matrices.{Matrix}
use Rattle.bmp_linear.specs.SparseVectors.{number_at}
use Rattle.bmp_elim.specs.Eliminations.{IsSolvedFrom, IsReducedOf}
use Rattle.bmp_elim.proofs.systems.solve.Goals as goal

pub returns : goal.returns
returns g c =
    let p = g.F.Field.size c.args.f.now in
    let old : Matrix = g.A.Rows.matrix c.args.a.now in
    let e = c.in_ok-eliminated.eliminated in
    let reduced : IsReducedOf p old (g.A.Rows.matrix e.rows) (g.A.Rows.matrix e.trace) e.pivots =
    rw (← c.in_ok-rows.ensures) c.in_ok-eliminated.ensures in
    let made : IsSolvedFrom p old (number_at c.args.b.now) c.in_ok-solution.solution =
    c.in_ok-solution.ensures old reduced in
    record { found = made.found; without = made.without; exactly = made.exactly }
