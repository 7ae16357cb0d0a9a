use Rattle.std.proofs.Common.{◌<◌, ◌+◌, length}
use Rattle.bmp_check.specs.ShapedViews.{written_in}
use Rattle.bmp_check.specs.StalkTasks.{IsSheafUpTo, BringStalks}
use Rattle.bmp_check.proofs.stalk_tasks.add_length.Given as goal

-- the stalks so far, and the sheaves that bring the others
abbrev pub invariant-made : goal.invariant-made
invariant-made g l = record {
  so_far : IsSheafUpTo l.fn.sheaf.graph (written_in l.given) (length l.sheaf.stalks) l.sheaf;
  bring : BringStalks l.fn.sheaf.graph (written_in l.given) (length l.sheaf.stalks) l.made.items;
  more : length l.fn.sheaf.stalks < length l.sheaf.stalks + length l.made.items;
}

abbrev pub decreases-made : goal.decreases-made
decreases-made g l = length l.made.items
