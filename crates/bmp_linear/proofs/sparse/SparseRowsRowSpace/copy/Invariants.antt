use Rattle.std.proofs.Common.{◌≡◌, map, take}
use Rattle.bmp_linear.specs.RowTables.{entries_of}
use Rattle.bmp_linear.proofs.sparse.SparseRowsRowSpace.copy.Given as goal

-- the rows so far are copied
abbrev pub invariant-loop-row : goal.invariant-loop-row
invariant-loop-row g l = map entries_of l.rows.items ≡ take l.row-index (map entries_of l.row-items)
