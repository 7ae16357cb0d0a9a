use Rattle.bmp_roots.specs.RootSystems.{matrix_of, positive_roots_of}
use Rattle.bmp_interval.specs.IntervalViews.{system_of, vertices_of}
use Rattle.bmp_kl.specs.IntervalBars.{counts_below}
use Rattle.bmp_kl.specs.PartLists.{IsTermAdded}
use Rattle.bmp_kl.proofs.parts.add_term.Given as goal

abbrev pub invariant-loop-x : goal.invariant-loop-x
invariant-loop-x l =
    IsTermAdded l.a l.x l.fn.top
    (counts_below (matrix_of (system_of l.interval)) (positive_roots_of (system_of l.interval))
    (vertices_of l.interval) l.y)
    l.fn.parts.items l.parts.items
