use Rattle.std.proofs.Common.{◌≡◌, ◌+◌}
use Rattle.bmp_sheaf.specs.Coordinates.{boundary_start}
use Rattle.bmp_sheaf.specs.States.{sheaf_of}
use Rattle.bmp_sheaf.proofs.boundary.BoundaryRows.edge_of.Given as goal

abbrev pub invariant-loop-e : goal.invariant-loop-e
invariant-loop-e g l =
    l.k ≡ boundary_start l.self.sheaf.now.graph (sheaf_of l.self.sheaf.now) l.self.vertex l.self.degree l.e + l.place
