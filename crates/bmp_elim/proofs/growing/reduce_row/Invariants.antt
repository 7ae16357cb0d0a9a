use Rattle.std.proofs.Common.{get_or}
use Rattle.bmp_elim.specs.GrowingBases.{IsRemainder}
use Rattle.bmp_elim.specs.Triangles.{square_of}
use Rattle.bmp_elim.proofs.growing.reduce_row.Given as goal

-- the row is reduced at the places that were passed
abbrev pub invariant-loop-k : goal.invariant-loop-k
invariant-loop-k g l = IsRemainder (g.F.Field.size l.f) l.k (g.A.Rows.matrix l.rows) (square_of l.trace) l.pivots
    (λ j. get_or l.fn.numbers j 0) l.numbers l.factors
