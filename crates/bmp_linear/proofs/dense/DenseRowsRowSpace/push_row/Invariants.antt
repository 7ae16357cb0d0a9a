use Rattle.std.proofs.Common.{◌≡◌, take}
use Rattle.bmp_linear.proofs.RowTableLemmas.{IsRowWritten}
use Rattle.bmp_linear.proofs.dense.DenseRowsRowSpace.push_row.Given as goal

-- the entries so far are written behind the old rows
abbrev pub invariant-loop-entry : goal.invariant-loop-entry
invariant-loop-entry g l =
    (l.self-inside.rows ≡ l.fn.self.rows)
    × (l.self-inside.cols ≡ l.fn.self.cols)
    × IsRowWritten (take l.entry-index l.entry-items) l.start l.fn.self.cols l.fn.self.numbers
    l.self-inside.numbers.items
