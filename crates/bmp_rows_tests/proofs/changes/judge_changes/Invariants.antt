use Rattle.bmp_math.specs.Matrices.{NumbersBelow}
use Rattle.bmp_field.specs.PrimeFields.{size_of}
use Rattle.bmp_rows_tests.proofs.changes.judge_changes.Given as goal

-- the rows have numbers of the field
abbrev pub invariant-loop-change : goal.invariant-loop-change
invariant-loop-change g l = NumbersBelow (size_of l.f) (g.A.Rows.matrix l.a)
