use Rattle.std.proofs.Common.{◌≡◌, ℕ, ◌+◌, ◌<◌, refl, ap, subst, ◌∙◌, arith}
use Rattle.bmp_math.specs.Matrices.{Matrix}
use Rattle.bmp_linear.specs.RowTables.{matrix_of_entries}
use Rattle.bmp_linear.specs.RowVectors.{IsRowVector}
use Rattle.bmp_linear.specs.SparseVectors.{number_at}
use Rattle.bmp_graph.specs.Graph.{lower, upper}
use Rattle.bmp_sheaf.specs.Coordinates.{boundary_start, edge_module_count}
use Rattle.bmp_sheaf.specs.States.{sheaf_of}
use Rattle.bmp_sections.specs.TupleLists.{value_matrix}
use Rattle.bmp_stalk.specs.Values.{joined_matrix, HasRowsOf, IsJoinedRow}
use Rattle.bmp_stalk.proofs.EdgeRowLemmas.{IsEdgeOf, joined_row_is}
use Rattle.bmp_stalk.proofs.JoinedLemmas.{rows_more}
use Rattle.bmp_stalk.proofs.joined.push_edge.Goals as goal

pub loop-i-preserved : goal.loop-i-preserved
loop-i-preserved g c =
    let G = c.args.sheaf.now.graph in
    let F = sheaf_of c.args.sheaf.now in
    let e : ℕ = c.args.e in
    let d : ℕ = c.args.d in
    let i : ℕ = c.loop-i.i in
    let x : ℕ = lower c.args.sheaf.now.graph c.args.e in
    let list = g.T.Sections.list c.args.tuples.now in
    let low : Matrix = matrix_of_entries c.lower_rows-low.result.now in
    let high : Matrix = matrix_of_entries c.upper_rows-high.result.now in
    let row = c.read_row.new.vector in
    let prime : g.F.Field.size c.field-f.result.now ≡ G.prime =
    ap g.F.Field.size c.field-f.ensures.field ∙ c.field-f.ensures.size in
    let seen : upper c.graph.result.now e ≡ upper G e = ap (λ k. upper k e) c.graph.ensures.graph in
    let up : c.edge.result.now.upper ≡ upper G e =
    ◌∙◌ {b = upper c.graph.result.now e} c.edge.ensures.upper seen in
    let h : IsEdgeOf G F x d e list low high = record {
      over = c.lower_rows-low.ensures.state.over;
      is_edge = c.requires.edge;
      starts = refl;
      low_is = c.lower_rows-low.ensures.matrix;
      high_is = c.upper_rows-high.ensures.matrix;
      size_is = c.requires.tuples.size;
    } in
    let inside : i < edge_module_count G F d e =
    omega (arith, c.rows-i-end.ensures, c.loop-i-test.true, h.low_is.rows) in
    let is_row : IsRowVector G.prime high i row =
    subst (λ q. IsRowVector q high i row) prime c.in_ok-read_row.ensures in
    let numbers = c.write_joined_row.new.numbers in
    let joined : IsJoinedRow G.prime low (number_at row) (value_matrix list (upper G e)) i numbers =
    subst (λ y. IsJoinedRow G.prime low (number_at row) (value_matrix list y) i numbers) up
    (subst (λ q. IsJoinedRow q low (number_at row) (value_matrix list c.edge.result.now.upper) i numbers) prime
    c.write_joined_row.ensures.row) in
    let next : (boundary_start G F x d e + i) + 1 ≡ boundary_start G F x d e + (i + 1) = omega arith in
    record {
      rows = subst (λ n. HasRowsOf n (joined_matrix G F x d list) (g.A.Rows.matrix c.push_numbers.new.self)) next
          (rows_more {n = boundary_start G F x d e + i} {a = joined_matrix G F x d list} c.loop-i.invariant.rows
          (joined_row_is h row i inside is_row numbers joined)
          c.in_ok-push_numbers.ensures.ok);
      sized = c.write_joined_row.auto.numbers ∙ c.loop-i.invariant.sized;
    }
