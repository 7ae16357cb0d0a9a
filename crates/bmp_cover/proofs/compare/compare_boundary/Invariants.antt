use Rattle.std.proofs.Common.{◌≡◌, get_or}
use Rattle.bmp_linear.specs.SparseVectors.{number_at}
use Rattle.bmp_sheaf.specs.Sheaves.{boundary_of_tuple}
use Rattle.bmp_sheaf.specs.Coordinates.{boundary_start}
use Rattle.bmp_sheaf.specs.Numbers.{boundary_number}
use Rattle.bmp_sheaf.specs.States.{sheaf_of}
use Rattle.bmp_sections.specs.TupleLists.{tuples_in}
use Rattle.bmp_cover.specs.Evidence.{combined_tuple}
use Rattle.bmp_cover.proofs.FaultLemmas.{AgreeBelow}
use Rattle.bmp_cover.proofs.compare.compare_boundary.Given as goal

-- the coordinates on the edges so far agree
abbrev pub invariant-loop-edge : goal.invariant-loop-edge
invariant-loop-edge g l =
    let G = l.sheaf.graph in
    let list = g.T.Sections.list l.tuples in
    record {
      start : l.start ≡ boundary_start G (sheaf_of l.sheaf) l.x l.d l.edge;
      agree : AgreeBelow l.start (λ k. get_or l.fn.s.first k 0)
          (boundary_number G (sheaf_of l.sheaf) l.x l.d
          (boundary_of_tuple G
          (combined_tuple (number_at l.factors) (tuples_in G (sheaf_of l.sheaf) l.d list) list.count)));
      first : l.s.first ≡ l.fn.s.first;
    }
