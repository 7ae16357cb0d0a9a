use Rattle.bmp_math.specs.Vectors.{unit}
use Rattle.bmp_sheaf.specs.States.{sheaf_of}
use Rattle.bmp_sheaf.proofs.BoundaryWrites.{IsBoundaryBefore}
use Rattle.bmp_sheaf.proofs.sheaf.Sheaf.generator_boundary.Given as goal

abbrev pub invariant-loop-e : goal.invariant-loop-e
invariant-loop-e g l = IsBoundaryBefore l.self.graph (sheaf_of l.self) l.x l.d (unit l.own) l.fn.s l.e l.start l.s
