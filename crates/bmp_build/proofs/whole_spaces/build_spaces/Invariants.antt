use Rattle.std.proofs.Common.{◌-◌, length}
use Rattle.bmp_graph.specs.Graph.{vertex_count}
use Rattle.bmp_build.specs.WholeSpaces.{AreWholeDown}
use Rattle.bmp_build.proofs.whole_spaces.build_spaces.Given as goal

-- the lengths so far
abbrev pub invariant-lengths : goal.invariant-lengths
invariant-lengths g l = AreWholeDown l.graph l.degree l.sheaf l.parts

-- the vertices that are left
abbrev pub decreases-lengths : goal.decreases-lengths
decreases-lengths g l = vertex_count l.graph - length l.parts
