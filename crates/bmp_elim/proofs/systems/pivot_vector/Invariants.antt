use Rattle.bmp_linear.specs.SparseVectors.{number_at}
use Rattle.bmp_elim.specs.FreeVectors.{IsPlacedBelow}
use Rattle.bmp_elim.specs.Images.{IsImage}
use Rattle.bmp_elim.proofs.systems.pivot_vector.Given as goal

-- the numbers at the pivots that were passed
abbrev pub invariant-loop-k : goal.invariant-loop-k
invariant-loop-k g l =
    IsPlacedBelow (g.F.Field.size l.f) l.pivots l.k (IsImage (g.F.Field.size l.f) (g.A.Rows.matrix l.t) (number_at l.b))
    l.x
