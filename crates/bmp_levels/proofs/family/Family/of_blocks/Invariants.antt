use Rattle.std.proofs.Common.{◌-◌, length}
use Rattle.bmp_graph.specs.Graph.{vertex_count}
use Rattle.bmp_levels.proofs.WholeFamilies.{IsPartial}
use Rattle.bmp_levels.proofs.family.Family.of_blocks.Given as goal

-- the families so far
abbrev pub invariant-loop-graph : goal.invariant-loop-graph
invariant-loop-graph g l = IsPartial l.sheaf l.d (g.B.LevelBlocks.block l.blocks) l.family

-- the vertices that are left
abbrev pub decreases-loop-graph : goal.decreases-loop-graph
decreases-loop-graph g l = vertex_count l.sheaf.graph - length l.family.runs
