use Rattle.bmp_sheaf.proofs.RowLemmas.{IsRowBelow}
use Rattle.bmp_sheaf.proofs.edge_maps.fill_row.Given as goal

-- the numbers of the row so far
abbrev pub invariant-loop-j : goal.invariant-loop-j
invariant-loop-j l = IsRowBelow l.rows l.i l.columns l.j l.row
