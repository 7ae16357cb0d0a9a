use Rattle.std.proofs.Common.{slice_index}
use Rattle.bmp_linear.specs.RowChanges.{AreMultiplesAddedBelow}
use Rattle.bmp_linear.proofs.rows.RowSpace.add_to_rows.Given as goal

-- the rows so far are done
abbrev pub invariant-loop-i : goal.invariant-loop-i
invariant-loop-i g l =
    AreMultiplesAddedBelow l.i (g.F.Field.size l.f) (g.Self.Rows.matrix l.fn.self) (g.Self.Rows.matrix l.self) l.from
    (slice_index l.factors)
