use Rattle.std.proofs.Common.{◌+◌, get_or}
use Rattle.std.specs.Prelude.{slice_index}
use Rattle.bmp_graph.specs.Graph.{upper}
use Rattle.bmp_sheaf.specs.Coordinates.{element_of}
use Rattle.bmp_sheaf.specs.Numbers.{on_edge}
use Rattle.bmp_sheaf.specs.States.{sheaf_of}
use Rattle.bmp_cover.proofs.FaultLemmas.{AgreeBelow}
use Rattle.bmp_cover.proofs.compare.compare_edge.Given as goal

-- the coordinates so far agree
abbrev pub invariant-loop-i : goal.invariant-loop-i
invariant-loop-i g l =
    let G = l.sheaf.graph in
    AgreeBelow l.i (λ i. get_or l.s.first (l.start + i) 0)
    (on_edge G (sheaf_of l.sheaf) l.d l.edge
    (element_of G.rank ((sheaf_of l.sheaf).degrees (upper G l.edge)) l.d (slice_index l.s.second)))
