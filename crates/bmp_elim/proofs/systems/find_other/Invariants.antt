use Rattle.bmp_linear.specs.SparseVectors.{number_at}
use Rattle.bmp_elim.specs.Images.{SaysZeroFrom}
use Rattle.bmp_elim.proofs.systems.find_other.Given as goal

-- the rows that were passed say 0
abbrev pub invariant-loop-row : goal.invariant-loop-row
invariant-loop-row g l = SaysZeroFrom (g.F.Field.size l.f) (g.A.Rows.matrix l.t) l.from l.row (number_at l.b)
