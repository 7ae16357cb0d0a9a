use Rattle.bmp_sheaf.specs.States.{sheaf_of}
use Rattle.bmp_build.proofs.WholeSizes.{AreCounted}
use Rattle.bmp_build.proofs.whole_space.count_equations.Given as goal

-- those of the smaller vertices
abbrev pub invariant-vertices : goal.invariant-vertices
invariant-vertices g l = AreCounted l.sheaf.graph (sheaf_of l.sheaf) l.x l.d l.y l.positions l.equations
