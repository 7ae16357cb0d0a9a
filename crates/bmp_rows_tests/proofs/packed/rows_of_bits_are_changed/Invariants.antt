use Rattle.bmp_math.specs.Matrices.{NumbersBelow}
use Rattle.bmp_packed.specs.WordTables.{matrix_of_words}
use Rattle.bmp_rows_tests.proofs.packed.rows_of_bits_are_changed.Given as goal

-- the rows have bits
abbrev pub invariant-loop-change : goal.invariant-loop-change
invariant-loop-change g l = NumbersBelow 2 (matrix_of_words l.a)
