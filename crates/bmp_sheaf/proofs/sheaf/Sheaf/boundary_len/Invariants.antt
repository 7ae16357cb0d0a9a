use Rattle.std.proofs.Common.{◌≡◌, ◌*◌, ◌≤◌}
use Rattle.bmp_sheaf.specs.Coordinates.{boundary_start}
use Rattle.bmp_sheaf.specs.States.{sheaf_of}
use Rattle.bmp_sheaf.proofs.sheaf.Sheaf.boundary_len.Given as goal

abbrev pub invariant-loop-e : goal.invariant-loop-e
invariant-loop-e g l =
    record {
      so_far : l.len ≡ boundary_start l.self.graph (sheaf_of l.self) l.x l.d l.e;
      small : l.len ≤ 4294967295 * l.e;
    }
