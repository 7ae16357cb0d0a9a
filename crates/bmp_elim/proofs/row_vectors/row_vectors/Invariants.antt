use Rattle.bmp_elim.specs.RowVectors.{AreRowVectors}
use Rattle.bmp_elim.proofs.row_vectors.row_vectors.Given as goal

-- the rows that were passed
abbrev pub invariant-loop-row : goal.invariant-loop-row
invariant-loop-row g l = AreRowVectors (g.F.Field.size l.f) (g.A.Rows.matrix l.a) l.from l.row l.vectors
