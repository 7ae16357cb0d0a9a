use Rattle.std.proofs.Common.{◌≡◌, ◌+◌, ◌≤◌, length, ap, rules, arith}
use Rattle.bmp_elim.specs.Triangles.{TriangleTable, row_start}
use Rattle.bmp_elim.proofs.TriangleLemmas.{row_within}
use Rattle.bmp_elim.proofs.triangle.Triangle.row.Goals as goal

pub slice_bounds-result-end : goal.slice_bounds-result-end
slice_bounds-result-end c =
    let height : c.self.inside.rows ≡ c.args.self.now.rows = ap (λ (t : TriangleTable). t.rows) c.self.view_is in
    let ends : row_start c.args.i + (c.args.i + 1) ≤ row_start c.self.inside.rows = row_within c.self.inside.rows
    c.args.i (rw height c.requires) in
    let full : length c.as_slice.result.now ≡ row_start c.self.inside.rows = search rules in
    let within : c.start_of-start.result + c.args.i + 1 ≤ length c.as_slice.result.now = omega (
      arith,
      c.start_of-start.ensures,
      ends,
      full,
    ) in
    search rules
