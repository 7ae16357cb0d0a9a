use Rattle.std.proofs.Common.{◌-◌, ◌<◌, arith, length}
use Rattle.std.proofs.lemmas.List.{get_or_read}
use Rattle.bmp_graph.specs.Graph.{edge_count}
use Rattle.bmp_graph.specs.Parts.{graph_of}
use Rattle.bmp_graph.proofs.TableLemmas.{HasEndingsFrom-step}
use Rattle.bmp_graph.proofs.parts.Parts.endings.Goals as goal

pub loop-e-preserved : goal.loop-e-preserved
loop-e-preserved c =
    let within : c.loop-e.e - 1 < edge_count (graph_of c.args.self.now) = omega arith in
    let ends = c.requires.ends (c.loop-e.e - 1) within in
    let in_first : c.upper-upper.result < length c.loop-e.first.items =
    omega (arith, ends.1, c.loop-e.invariant.of_each_vertex) in
    HasEndingsFrom-step _ (c.loop-e.e - 1) c.loop-e.e c.upper-upper.result c.index.result.now c.loop-e.first.items
    c.loop-e.next.items
    c.loop-e.invariant (omega arith) within ends.1 c.upper-upper.ensures (get_or_read _ _ _ in_first c.index.ensures 0)
