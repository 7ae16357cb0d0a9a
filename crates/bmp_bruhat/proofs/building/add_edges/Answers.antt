use Rattle.std.proofs.Common.{arith}
use Rattle.bmp_roots.proofs.RootsLemmas.{has_few_positives}
use Rattle.bmp_interval.specs.IntervalViews.{system_of, vertices_of}
use Rattle.bmp_bruhat.proofs.BuildingLemmas.{HasEdgesUpTo-row}
use Rattle.bmp_bruhat.proofs.building.add_edges.Goals as goal

pub overflow_cast-i : goal.overflow_cast-i
overflow_cast-i c = omega (arith, c.requires.reflections.as_long, has_few_positives (system_of c.args.interval.now))

pub add_edge-requires-clause-reflection : goal.add_edge-requires-clause-reflection
add_edge-requires-clause-reflection c =
    λ pair at. c.requires.reflections.each c.loop-i.i pair _ (omega (arith, c.requires.reflections.as_long)) at

pub returns : goal.returns
returns c =
    HasEdgesUpTo-row (system_of c.args.interval.now) (vertices_of c.args.interval.now) c.args.x c.loop-i.i
    c.loop-i.edges.items c.loop-i.invariant
    (omega (arith, c.requires.reflections.as_long))
