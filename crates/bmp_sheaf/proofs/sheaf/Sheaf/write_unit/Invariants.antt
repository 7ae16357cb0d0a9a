use Rattle.bmp_math.specs.Vectors.{unit}
use Rattle.bmp_sheaf.specs.States.{sheaf_of}
use Rattle.bmp_sheaf.specs.Boundaries.{IsRunWritten, lift_numbers}
use Rattle.bmp_sheaf.proofs.sheaf.Sheaf.write_unit.Given as goal

abbrev pub invariant-loop-i : goal.invariant-loop-i
invariant-loop-i g l =
    IsRunWritten (lift_numbers l.self.graph (sheaf_of l.self) l.d l.e (unit l.own)) l.start l.i l.fn.s l.s
