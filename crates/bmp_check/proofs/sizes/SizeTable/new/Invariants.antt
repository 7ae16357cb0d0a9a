use Rattle.std.proofs.Common.{◌≡◌, ◌≤◌}
use Rattle.std.specs.List.{All}
use Rattle.bmp_sheaf.specs.Coordinates.{stalk_count, boundary_count}
use Rattle.bmp_check.specs.PartsSheaf.{parts_sheaf}
use Rattle.bmp_check.specs.SizeLists.{MOST_SIZE, size_numbers}
use Rattle.bmp_check.specs.ShapedViews.{written_in}
use Rattle.bmp_check.proofs.sizes.SizeTable.new.Given as goal

-- the numbers so far
abbrev pub invariant-each : goal.invariant-each
invariant-each l = record {
  stalks : l.stalks.items
      ≡ size_numbers (λ x d. stalk_count l.graph.rank ((parts_sheaf l.graph (written_in l.c)).degrees x) d) l.width l.k;
  boundaries : l.boundaries.items
      ≡ size_numbers (λ x d. boundary_count l.graph (parts_sheaf l.graph (written_in l.c)) x d) l.width l.k;
  small_stalks : All (λ n. n ≤ MOST_SIZE) l.stalks.items;
  small_boundaries : All (λ n. n ≤ MOST_SIZE) l.boundaries.items;
}
