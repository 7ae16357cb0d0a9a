use Rattle.std.proofs.Common.{◌≡◌, ◌*◌, ◌≤◌, cond}
use Rattle.bmp_math.specs.Sums.{sum_below}
use Rattle.bmp_sections.specs.Numbers.{is_above}
use Rattle.bmp_check.specs.SizeLists.{MOST_SIZE, size_in}
use Rattle.bmp_check.proofs.size_rows.SizeRows.sum_above.Given as goal

-- the sum over the smaller vertices above x
abbrev pub invariant-vertices : goal.invariant-vertices
invariant-vertices l = record {
  so_far : l.sum ≡ sum_below (λ y. cond (is_above l.graph l.x y) (size_in l.self y l.d) 0) l.y;
  small : l.sum ≤ l.y * MOST_SIZE;
}
