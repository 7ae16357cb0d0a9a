use Rattle.std.proofs.Common.{arith}
use Rattle.bmp_roots.specs.RootSystems.{positive_roots_of}
use Rattle.bmp_weyl.specs.Elements.{element_length}
use Rattle.bmp_interval.specs.IntervalViews.{system_of, vertices_of}
use Rattle.bmp_bruhat.proofs.ReflectionLemmas.{lengths_more}
use Rattle.bmp_bruhat.proofs.graph.lengths_of.Goals as goal

pub loop-x-preserved : goal.loop-x-preserved
loop-x-preserved c =
    lengths_more (element_length (positive_roots_of (system_of c.args.interval.now))) (vertices_of c.args.interval.now)
    c.loop-x.x c.length.result
    c.loop-x.lengths.items _ c.loop-x.invariant (omega (arith, c.len-x-end.ensures.value)) c.length.ensures
    c.in_ok-push.ensures.items
