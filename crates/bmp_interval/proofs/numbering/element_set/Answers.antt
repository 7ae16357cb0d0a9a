use Rattle.bmp_interval.proofs.NumberLemmas.{element_added}
use Rattle.bmp_interval.proofs.numbering.element_set.Goals as goal

pub loop-vertex-preserved : goal.loop-vertex-preserved
loop-vertex-preserved c =
    element_added c.args.vertices.now c.requires c.loop-vertex.vertex-index _ c.loop-vertex.set.keys c.add.new.set.keys
    c.loop-vertex-test.true c.loop-vertex.invariant c.in_ok-add.ensures.ok
