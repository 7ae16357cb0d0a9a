use Rattle.bmp_math.specs.Matrices.{Matrix}
use Rattle.bmp_elim.specs.Steps.{IsEliminated}
use Rattle.bmp_elim.specs.Traces.{AreUnits}
use Rattle.bmp_elim.proofs.StepLemmas.{eliminated_trace, eliminated_echelon}
use Rattle.bmp_elim.proofs.eliminated.eliminate_rows.Goals as goal

pub returns : goal.returns
returns g c =
    let p = g.F.Field.size c.args.f.now in
    let old : Matrix = g.A.Rows.matrix c.args.a in
    let new : Matrix = g.A.Rows.matrix c.eliminate.new.a in
    let first : Matrix = g.A.Rows.matrix c.in_ok-trace.trace in
    let trace : Matrix = g.A.Rows.matrix c.eliminate.new.t in
    let ps = c.in_ok-pivots.pivots in
    let done : IsEliminated p old.cols old new first trace ps = c.in_ok-pivots.ensures in
    let units : AreUnits old.rows old.rows first = rw (← c.rows.ensures) c.in_ok-trace.ensures.units in
    record {
      trace = eliminated_trace p old new first trace ps done units;
      echelon = eliminated_echelon p old new first trace ps done;
      numbers = done.numbers;
      trace_numbers = done.other_numbers;
    }
