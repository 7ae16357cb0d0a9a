use Rattle.bmp_math.specs.Matrices.{NumbersBelow}
use Rattle.bmp_field.specs.PrimeFields.{size_of}
use Rattle.bmp_rows_tests.proofs.elimination.pushed.Given as goal

-- the rows so far have field numbers
abbrev pub invariant-loop-i : goal.invariant-loop-i
invariant-loop-i g l = NumbersBelow (size_of l.f) (g.A.Rows.matrix l.a)
