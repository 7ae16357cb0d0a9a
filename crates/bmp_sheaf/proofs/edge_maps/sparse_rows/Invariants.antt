use Rattle.bmp_linear.specs.RowTables.{matrix_of_entries}
use Rattle.bmp_sheaf.proofs.RowLemmas.{HasRowsBelow}
use Rattle.bmp_sheaf.proofs.edge_maps.sparse_rows.Given as goal

-- the rows so far
abbrev pub invariant-loop-i : goal.invariant-loop-i
invariant-loop-i g l = HasRowsBelow l.rows l.cols l.columns l.i (matrix_of_entries l.sparse)
