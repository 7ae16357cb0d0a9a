use Rattle.bmp_linear.specs.RowTables.{matrix_of_entries}
use Rattle.bmp_sections.proofs.StoredRowLemmas.{HasRowsBelow}
use Rattle.bmp_sections.proofs.constraints.stored.Given as goal

-- the rows so far
abbrev pub invariant-loop-i : goal.invariant-loop-i
invariant-loop-i g l = HasRowsBelow l.i (g.A.Rows.matrix l.a) (matrix_of_entries l.rows)
