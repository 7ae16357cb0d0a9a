-- The value of a tuple at a vertex, as a row of numbers.
use Rattle.std.proofs.Common.{ℕ}
use Rattle.bmp_math.specs.Matrices.{Matrix}
use Rattle.bmp_sections.specs.TupleLists.{TupleList}

-- the value at y of the tuple j, as a matrix of one row
abbrev pub value_row : TupleList → ℕ → ℕ → Matrix
value_row list j y = record { rows = 1; cols = list.size y; entry = λ i c. list.value j y c }
