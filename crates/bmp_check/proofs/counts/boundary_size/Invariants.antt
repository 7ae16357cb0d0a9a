use Rattle.std.proofs.Common.{◌≡◌, ◌-◌, ◌*◌, ◌^◌, ◌≤◌}
use Rattle.bmp_sheaf.specs.Coordinates.{boundary_start}
use Rattle.bmp_check.specs.PartsSheaf.{parts_sheaf}
use Rattle.bmp_check.specs.ShapedViews.{written_in}
use Rattle.bmp_check.proofs.counts.boundary_size.Given as goal

-- the coordinates on the edges so far
abbrev pub invariant-edges : goal.invariant-edges
invariant-edges l = record {
  so_far : l.size ≡ boundary_start l.graph (parts_sheaf l.graph (written_in l.c)) l.x l.d l.e;
  small : l.size ≤ (l.e - l.from) * (255 * 2 ^ 32);
}
