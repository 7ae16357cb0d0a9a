use Rattle.std.proofs.Common.{◌≡◌, ◌+◌, sym, ap, subst, arith, ◌∙◌}
use Rattle.bmp_graph.specs.Graph.{IsUpRange}
use Rattle.bmp_sheaf.specs.Coordinates.{edge_module_count, boundary_start}
use Rattle.bmp_sheaf.specs.States.{sheaf_of}
use Rattle.bmp_sheaf.proofs.UpEdges.{boundary_starts, boundary_goes_on, boundary_ends}
use Rattle.bmp_sheaf.proofs.sheaf.Sheaf.boundary_len.Goals as goal

pub loop-e-init : goal.loop-e-init
loop-e-init g c =
    let s = c.args.self.now in
    let range : IsUpRange s.graph c.args.x c.up-first.result.0 c.up-first.result.1 =
    subst (λ G. IsUpRange G c.args.x c.up-first.result.0 c.up-first.result.1) c.graph.ensures.graph
    c.up-first.ensures.range in
    record {
      so_far = sym
          (boundary_starts s.graph c.args.x c.up-first.result.0 c.up-first.result.1 range (sheaf_of s) c.args.d);
      small =
          omega arith;
    }

pub loop-e-preserved : goal.loop-e-preserved
loop-e-preserved g c =
    let s = c.args.self.now in
    let range : IsUpRange s.graph c.args.x c.up-first.result.0 c.up-first.result.1 =
    subst (λ G. IsUpRange G c.args.x c.up-first.result.0 c.up-first.result.1) c.graph.ensures.graph
    c.up-first.ensures.range in
    let more : boundary_start s.graph (sheaf_of s) c.args.x c.args.d (c.loop-e.e + 1) ≡ boundary_start s.graph
    (sheaf_of s) c.args.x c.args.d c.loop-e.e + edge_module_count s.graph (sheaf_of s) c.args.d c.loop-e.e =
    boundary_goes_on s.graph c.args.x c.up-first.result.0 c.up-first.result.1 range (sheaf_of s) c.args.d c.loop-e.e
    c.loop-e.auto.e c.loop-e-test.true in
    let size : c.from-len.result ≡ edge_module_count s.graph (sheaf_of s) c.args.d c.loop-e.e =
    c.from-len.ensures ∙ c.rows.ensures ∙ c.lower_rows.ensures.matrix.rows in
    record {
      so_far = omega (arith, more, size, c.loop-e.invariant.so_far);
      small = omega (arith, c.loop-e.invariant.small);
    }

pub returns : goal.returns
returns g c =
    let s = c.args.self.now in
    let range : IsUpRange s.graph c.args.x c.up-first.result.0 c.up-first.result.1 =
    subst (λ G. IsUpRange G c.args.x c.up-first.result.0 c.up-first.result.1) c.graph.ensures.graph
    c.up-first.ensures.range in
    let last : c.loop-e.e ≡ c.up-first.result.1 =
    omega (arith, range.ordered, c.loop-e.auto.e-end, c.loop-e-test.false) in
    c.loop-e.invariant.so_far ∙ ap (boundary_start s.graph (sheaf_of s) c.args.x c.args.d) last
    ∙ boundary_ends s.graph c.args.x c.up-first.result.0 c.up-first.result.1 range (sheaf_of s) c.args.d
