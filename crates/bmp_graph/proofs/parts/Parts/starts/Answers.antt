use Rattle.bmp_graph.proofs.TableLemmas.{HasStartsBefore-more}
use Rattle.bmp_graph.proofs.parts.Parts.starts.Goals as goal

pub loop-vertex-preserved : goal.loop-vertex-preserved
loop-vertex-preserved c =
    HasStartsBefore-more _ c.loop-vertex.vertex _ _ c.loop-vertex.starts.items _ c.loop-vertex.invariant
    c.in_ok-push.ensures.items c.start_after-start.ensures
