use Rattle.std.proofs.Common.{◌≡◌, ap, subst, arith, ◌∙◌}
use Rattle.bmp_graph.specs.Graph.{IsUpRange}
use Rattle.bmp_sheaf.specs.Coordinates.{edge_module_count, boundary_start, boundary_count}
use Rattle.bmp_sheaf.specs.States.{sheaf_of}
use Rattle.bmp_sheaf.proofs.UpEdges.{boundary_starts, boundary_goes_on, boundary_ends}
use Rattle.bmp_sheaf.proofs.boundary.BoundaryRows.edge_of.Goals as goal

pub loop-e-init : goal.loop-e-init
loop-e-init g c =
    let t = c.args.self.now in
    let G = t.sheaf.now.graph in
    let range : IsUpRange G t.vertex c.up-first.result.0 c.up-first.result.1 =
    subst (λ H. IsUpRange H t.vertex c.up-first.result.0 c.up-first.result.1) c.graph.ensures.graph
    c.up-first.ensures.range in
    omega (
      arith,
      boundary_starts G t.vertex c.up-first.result.0 c.up-first.result.1 range (sheaf_of t.sheaf.now)
          t.degree,
    )

pub loop-e-preserved : goal.loop-e-preserved
loop-e-preserved g c =
    let t = c.args.self.now in
    let G = t.sheaf.now.graph in
    let range : IsUpRange G t.vertex c.up-first.result.0 c.up-first.result.1 =
    subst (λ H. IsUpRange H t.vertex c.up-first.result.0 c.up-first.result.1) c.graph.ensures.graph
    c.up-first.ensures.range in
    let size : c.rows-rows.result ≡ edge_module_count G (sheaf_of t.sheaf.now) t.degree c.loop-e.e =
    c.rows-rows.ensures ∙ c.lower_rows.ensures.matrix.rows in
    omega (
      arith,
      size,
      c.loop-e.invariant,
      c.if-place-rows.false,
      boundary_goes_on G t.vertex c.up-first.result.0 c.up-first.result.1 range (sheaf_of t.sheaf.now) t.degree
          c.loop-e.e c.loop-e.auto.e c.loop-e-test.true,
    )

pub unreachable-requires : goal.unreachable-requires
unreachable-requires g c =
    let t = c.args.self.now in
    let G = t.sheaf.now.graph in
    let range : IsUpRange G t.vertex c.up-first.result.0 c.up-first.result.1 =
    subst (λ H. IsUpRange H t.vertex c.up-first.result.0 c.up-first.result.1) c.graph.ensures.graph
    c.up-first.ensures.range in
    let last : c.loop-e.e ≡ c.up-first.result.1 =
    omega (arith, range.ordered, c.loop-e.auto.e-end, c.loop-e-test.false) in
    let all : boundary_start G (sheaf_of t.sheaf.now) t.vertex t.degree c.loop-e.e
    ≡ boundary_count G (sheaf_of t.sheaf.now) t.vertex t.degree =
    ap (boundary_start G (sheaf_of t.sheaf.now) t.vertex t.degree) last
    ∙ boundary_ends G t.vertex c.up-first.result.0 c.up-first.result.1 range (sheaf_of t.sheaf.now) t.degree in
    omega (arith, all, c.loop-e.invariant, c.requires, t.as_many_rows)
