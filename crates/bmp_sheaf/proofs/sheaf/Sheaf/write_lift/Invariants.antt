use Rattle.bmp_linear.specs.SparseVectors.{number_at}
use Rattle.bmp_sheaf.specs.States.{sheaf_of}
use Rattle.bmp_sheaf.specs.Boundaries.{IsRunWritten, lift_numbers}
use Rattle.bmp_sheaf.proofs.sheaf.Sheaf.write_lift.Given as goal

abbrev pub invariant-loop-i : goal.invariant-loop-i
invariant-loop-i g l =
    IsRunWritten (lift_numbers l.self.graph (sheaf_of l.self) l.d l.e (number_at l.u)) l.start l.i l.fn.s l.s
