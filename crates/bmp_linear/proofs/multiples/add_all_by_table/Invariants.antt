use Rattle.std.proofs.Common.{slice_index}
use Rattle.bmp_linear.specs.RowRuns.{AreAddedBelow}
use Rattle.bmp_linear.proofs.multiples.add_all_by_table.Given as goal

-- the rows so far are done
abbrev pub invariant-loop-i : goal.invariant-loop-i
invariant-loop-i g l =
    AreAddedBelow l.i (g.F.Field.size l.f) l.run (slice_index l.factors) l.fn.numbers l.numbers
