use Rattle.bmp_elim.specs.FreeVectors.{IsPlacedBelow}
use Rattle.bmp_elim.proofs.FreeVectorLemmas.{TakesAway}
use Rattle.bmp_elim.proofs.kernels.free_vector.Given as goal

-- what takes the column away at the pivots that were passed
abbrev pub invariant-loop-k : goal.invariant-loop-k
invariant-loop-k g l =
    IsPlacedBelow (g.F.Field.size l.f) l.pivots l.k (TakesAway (g.F.Field.size l.f) (g.A.Rows.matrix l.a) l.free)
    l.vector
