use Rattle.bmp_math.specs.Matrices.{NumbersBelow}
use Rattle.bmp_field.specs.PrimeFields.{size_of}
use Rattle.bmp_rows_tests.proofs.matrices.made.Given as goal

-- the rows so far have numbers of the field
abbrev pub invariant-loop-row : goal.invariant-loop-row
invariant-loop-row g l = NumbersBelow (size_of l.f) (g.A.Rows.matrix l.a)
