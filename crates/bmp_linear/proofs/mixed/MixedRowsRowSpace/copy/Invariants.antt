use Rattle.std.proofs.Common.{◌≡◌, take}
use Rattle.bmp_linear.proofs.mixed.MixedRowsRowSpace.copy.Given as goal

-- the rows so far are copied
abbrev pub invariant-loop-row : goal.invariant-loop-row
invariant-loop-row g l = l.rows.items ≡ take l.row-index l.row-items
