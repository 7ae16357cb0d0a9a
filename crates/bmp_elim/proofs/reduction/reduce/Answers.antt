use Rattle.std.proofs.Common.{ap, ◌%◌}
use Rattle.bmp_math.specs.Matrices.{SameMatrix}
use Rattle.bmp_linear.specs.RowTables.{matrix_of_entries}
use Rattle.bmp_elim.proofs.TraceLemmas.{trace_same}
use Rattle.bmp_elim.proofs.reduction.reduce.Goals as goal

-- rows that are equal to the trace are one too
pub returns-clause-trace : goal.returns-clause-trace
returns-clause-trace g c =
    let p = g.F.Field.size c.args.f.now in
    let e = c.in_ok-eliminated.eliminated in
    let trace = g.A.Rows.matrix e.trace in
    let copied : SameMatrix (matrix_of_entries c.in_ok-trace.trace) trace = c.in_ok-trace.ensures.same in
    trace_same p (g.A.Rows.matrix c.args.a) (g.A.Rows.matrix e.rows) trace (matrix_of_entries c.in_ok-trace.trace)
    copied.rows copied.cols (λ i j l b. ap (λ z. z % p) (copied.entries i j l b)) c.in_ok-eliminated.ensures.trace
