use Rattle.std.proofs.Common.{slice_index}
use Rattle.bmp_linear.specs.NumberRows.{AreRowsSummedBelow}
use Rattle.bmp_linear.proofs.mixed_sums.add_numbers_to_each.Given as goal

-- the rows so far are done
abbrev pub invariant-loop-i : goal.invariant-loop-i
invariant-loop-i g l =
    AreRowsSummedBelow l.i (g.F.Field.size l.f) l.from (slice_index l.factors) (slice_index l.more) l.fn.rows l.rows
