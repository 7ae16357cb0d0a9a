use Rattle.bmp_check.specs.StalkTasks.{IsSheafUpTo}
use Rattle.bmp_check.specs.ShapedViews.{written_in}
use Rattle.bmp_check.proofs.written.sheaf_of.Given as goal

-- the stalks so far
abbrev pub invariant-parts : goal.invariant-parts
invariant-parts l = IsSheafUpTo l.graph (written_in l.c) l.i l.sheaf
