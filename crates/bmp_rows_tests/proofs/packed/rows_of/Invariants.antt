use Rattle.bmp_math.specs.Matrices.{NumbersBelow}
use Rattle.bmp_rows_tests.proofs.packed.rows_of.Given as goal

-- the rows so far have bits
abbrev pub invariant-loop-i : goal.invariant-loop-i
invariant-loop-i g l = NumbersBelow 2 (g.A.Rows.matrix l.a)
