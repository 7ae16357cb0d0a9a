use Rattle.std.proofs.Common.{take}
use Rattle.bmp_linear.specs.SparseVectors.{number_at}
use Rattle.bmp_levels.specs.Runs.{IsColumnWritten}
use Rattle.bmp_levels.proofs.columns.write_column.Given as goal

-- the entries so far are written
abbrev pub invariant-loop-entry : goal.invariant-loop-entry
invariant-loop-entry l =
    IsColumnWritten l.width l.column (number_at (take l.entry-index l.entries)) l.fn.numbers l.numbers
