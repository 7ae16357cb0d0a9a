use Rattle.bmp_linear.specs.Evidence.{vector_at}
use Rattle.bmp_levels.specs.Runs.{AreColumnsWritten}
use Rattle.bmp_levels.proofs.columns.write_columns.Given as goal

-- the vectors so far are written
abbrev pub invariant-loop-i : goal.invariant-loop-i
invariant-loop-i l = AreColumnsWritten l.width l.start l.i (vector_at l.vectors) l.fn.numbers l.numbers
