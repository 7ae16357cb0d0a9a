use Rattle.std.proofs.Common.{◌≡◌, ◌+◌, length}
use Rattle.bmp_graph.specs.Graph.{lower}
use Rattle.bmp_sheaf.specs.Coordinates.{boundary_start}
use Rattle.bmp_sheaf.specs.States.{sheaf_of}
use Rattle.bmp_stalk.specs.Values.{joined_matrix, HasRowsOf}
use Rattle.bmp_stalk.proofs.joined.push_edge.Given as goal

-- the rows of the edge that were passed
abbrev pub invariant-loop-i : goal.invariant-loop-i
invariant-loop-i g l = let G = l.sheaf.graph in let F = sheaf_of l.sheaf in let x = lower G l.e in record {
  rows : HasRowsOf (boundary_start G F x l.d l.e + l.i) (joined_matrix G F x l.d (g.T.Sections.list l.tuples))
      (g.A.Rows.matrix l.o);
  sized : length l.joined ≡ length l.fn.joined;
}
