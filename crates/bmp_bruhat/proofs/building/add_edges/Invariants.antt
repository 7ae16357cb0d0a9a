use Rattle.bmp_interval.specs.IntervalViews.{system_of, vertices_of}
use Rattle.bmp_bruhat.specs.Building.{HasEdgesUpTo}
use Rattle.bmp_bruhat.proofs.building.add_edges.Given as goal

-- the edges of the roots so far are there
abbrev pub invariant-loop-i : goal.invariant-loop-i
invariant-loop-i l = HasEdgesUpTo (system_of l.interval) (vertices_of l.interval) l.x l.i l.edges.items
