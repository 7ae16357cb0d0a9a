use Rattle.bmp_linear.specs.SparseVectors.{number_at}
use Rattle.bmp_sheaf.specs.States.{sheaf_of}
use Rattle.bmp_sheaf.proofs.BoundaryWrites.{IsBoundaryBefore}
use Rattle.bmp_sheaf.proofs.sheaf.Sheaf.boundary.Given as goal

abbrev pub invariant-loop-e : goal.invariant-loop-e
invariant-loop-e g l = IsBoundaryBefore l.self.graph (sheaf_of l.self) l.x l.d (number_at l.u) l.fn.s l.e l.start l.s
