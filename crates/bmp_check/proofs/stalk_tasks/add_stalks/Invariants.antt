use Rattle.std.proofs.Common.{◌≤◌, ◌-◌, length}
use Rattle.bmp_graph.specs.Graph.{vertex_count}
use Rattle.bmp_check.specs.ShapedViews.{written_in}
use Rattle.bmp_check.specs.StalkTasks.{IsSheafUpTo}
use Rattle.bmp_check.proofs.stalk_tasks.add_stalks.Given as goal

-- the lengths so far
abbrev pub invariant-lengths : goal.invariant-lengths
invariant-lengths g l = record {
  so_far : IsSheafUpTo l.fn.sheaf.graph (written_in l.given) (length l.sheaf.stalks) l.sheaf;
  few : length l.sheaf.stalks ≤ vertex_count l.fn.sheaf.graph;
}

-- the stalks that are left
abbrev pub decreases-lengths : goal.decreases-lengths
decreases-lengths g l = vertex_count l.fn.sheaf.graph - length l.sheaf.stalks
