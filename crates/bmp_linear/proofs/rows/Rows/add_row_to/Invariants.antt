use Rattle.bmp_linear.proofs.RowSums.{IsAddedBelow}
use Rattle.bmp_linear.proofs.rows.Rows.add_row_to.Given as goal

-- the row is added at the columns so far
abbrev pub invariant-loop-j : goal.invariant-loop-j
invariant-loop-j g l =
    IsAddedBelow (g.F.Field.size l.f) (g.Self.Rows.matrix l.self) l.i (g.F.Field.num l.f l.c) l.j l.fn.sums l.sums
