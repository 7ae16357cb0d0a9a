use Rattle.bmp_elim.specs.Steps.{IsZeroFrom}
use Rattle.bmp_elim.proofs.eliminate.find_row.Given as goal

-- the rows that were passed are 0
abbrev pub invariant-loop-row : goal.invariant-loop-row
invariant-loop-row g l = IsZeroFrom (g.A.Rows.matrix l.a) l.from l.row l.col
