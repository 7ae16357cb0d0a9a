use Rattle.bmp_elim.specs.KeptColumns.{ArePlacedColumns}
use Rattle.bmp_elim.proofs.columns.placed_columns.Given as goal

-- the columns that were passed
abbrev pub invariant-loop-column : goal.invariant-loop-column
invariant-loop-column g l = ArePlacedColumns (g.F.Field.size l.f) (g.A.Rows.matrix l.a) l.places l.from l.column
    l.vectors
