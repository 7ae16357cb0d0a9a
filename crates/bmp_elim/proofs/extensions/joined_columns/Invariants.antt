use Rattle.bmp_math.specs.Matrices.{NumbersBelow}
use Rattle.bmp_elim.specs.Columns.{AreJoinedColumns}
use Rattle.bmp_elim.proofs.extensions.joined_columns.Given as goal

-- the columns that were passed
abbrev pub invariant-loop-column : goal.invariant-loop-column
invariant-loop-column g l = record {
  joined : AreJoinedColumns l.column (g.A.Rows.matrix l.span) (g.A.Rows.matrix l.vectors) (g.A.Rows.matrix l.columns);
  numbers : NumbersBelow (g.F.Field.size l.f) (g.A.Rows.matrix l.columns);
}
