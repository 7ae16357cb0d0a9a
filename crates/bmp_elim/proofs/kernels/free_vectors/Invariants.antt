use Rattle.std.proofs.Common.{◌≤◌}
use Rattle.bmp_elim.specs.FreeVectors.{IsCountBelow, IsBasisBelow}
use Rattle.bmp_elim.proofs.kernels.free_vectors.Given as goal

-- the free places that were passed have their vectors, and the pivots are counted
abbrev pub invariant-loop-place : goal.invariant-loop-place
invariant-loop-place g l = record {
  basis : IsBasisBelow (g.F.Field.size l.f) (g.A.Rows.matrix l.a) l.pivots l.place l.vectors;
  count : IsCountBelow l.pivots l.place l.next;
  low : l.next ≤ l.place;
}
