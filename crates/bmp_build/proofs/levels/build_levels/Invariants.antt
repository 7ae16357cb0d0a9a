use Rattle.std.proofs.Common.{◌-◌, length}
use Rattle.bmp_graph.specs.Graph.{vertex_count}
use Rattle.bmp_build.specs.Building.{last_length, IsBuiltDown}
use Rattle.bmp_build.proofs.levels.build_levels.Given as goal

-- the levels so far
abbrev pub invariant-levels : goal.invariant-levels
invariant-levels g l =
    IsBuiltDown l.graph l.degree (last_length l.graph l.parts) (last_length l.graph l.parts) l.sheaf l.parts
    l.families.items

-- the vertices that are left
abbrev pub decreases-levels : goal.decreases-levels
decreases-levels g l = vertex_count l.graph - length l.parts
