use Rattle.std.proofs.Common.{IsTrue}
use Rattle.bmp_graph.proofs.GkmLemmas.{AreParallel-same}
use Rattle.bmp_graph.proofs.graph.MomentGraph.has_parallel.Goals as goal

pub returns : goal.returns
returns c =
    AreParallel-same (IsTrue c.are_parallel.result) _ _ _ _ _ _ _ _ c.edge.ensures.prime c.edge.ensures.rank
    c.edge.ensures.label c.edge-2.ensures.label
    c.are_parallel.ensures
