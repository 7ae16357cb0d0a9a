use Rattle.std.proofs.Common.{arith}
use Rattle.bmp_graph.proofs.TableLemmas.{IsStart-found}
use Rattle.bmp_graph.proofs.parts.Parts.start_after.Goals as goal

pub returns-else-lower-vertex : goal.returns-else-lower-vertex
returns-else-lower-vertex c =
    IsStart-found _ c.requires.graph c.args.vertex c.loop-start.start (omega arith) c.loop-start.invariant.1
    (omega arith)
