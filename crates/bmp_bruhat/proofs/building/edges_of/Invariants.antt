use Rattle.bmp_interval.specs.IntervalViews.{system_of, vertices_of}
use Rattle.bmp_bruhat.specs.Building.{HasEdgesUpTo}
use Rattle.bmp_bruhat.proofs.building.edges_of.Given as goal

-- the edges of the vertices so far are there
abbrev pub invariant-loop-x : goal.invariant-loop-x
invariant-loop-x l = HasEdgesUpTo (system_of l.interval) (vertices_of l.interval) l.x 0 l.edges.items
