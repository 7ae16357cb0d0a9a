use Rattle.std.proofs.Common.{◌≡◌, length}
use Rattle.bmp_sheaf.specs.Coordinates.{boundary_start}
use Rattle.bmp_sheaf.specs.States.{sheaf_of}
use Rattle.bmp_stalk.specs.Values.{joined_matrix, HasRowsOf}
use Rattle.bmp_stalk.proofs.joined.push_edges.Given as goal

-- the rows of the edges that were passed
abbrev pub invariant-loop-e : goal.invariant-loop-e
invariant-loop-e g l = let G = l.sheaf.graph in let F = sheaf_of l.sheaf in record {
  rows : HasRowsOf (boundary_start G F l.x l.d l.e) (joined_matrix G F l.x l.d (g.T.Sections.list l.tuples))
      (g.A.Rows.matrix l.o);
  joined : length l.joined ≡ length l.fn.joined;
}
