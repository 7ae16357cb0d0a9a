use Rattle.std.proofs.Common.{◌≡◌, ap, arith, ◌∙◌}
use Rattle.bmp_graph.specs.Graph.{vertex_count}
use Rattle.bmp_sheaf.specs.States.{IsThere}
use Rattle.bmp_sheaf.proofs.SizeLemmas.{room_none, room_more, room_whole}
use Rattle.bmp_sheaf.proofs.sheaf.Sheaf.scratch_len.Goals as goal

pub loop-x-init : goal.loop-x-init
loop-x-init g c =
    let s = c.args.self.now in
    let vertices : c.vertices-vertices.result ≡ vertex_count s.graph =
    c.vertices-vertices.ensures.count ∙ ap vertex_count c.graph.ensures.graph in
    room_none s c.args.d _ (omega (arith, vertices, c.pushed.ensures.count, c.pushed.ensures.within))

pub loop-x-preserved : goal.loop-x-preserved
loop-x-preserved g c =
    let s = c.args.self.now in
    let vertices : c.vertices-vertices.result ≡ vertex_count s.graph =
    c.vertices-vertices.ensures.count ∙ ap vertex_count c.graph.ensures.graph in
    let there : IsThere s c.loop-x.x = (
      omega (arith, vertices, c.loop-x-test.true),
      omega (arith, vertices, c.loop-x.auto.x, c.pushed.ensures.count),
    ) in
    room_more s c.args.d c.loop-x.x c.loop-x.most c.stalk_len.result c.max.result c.boundary_len.result
    c.max-most.result there c.stalk_len.ensures c.boundary_len.ensures c.max.ensures c.max-most.ensures
    c.loop-x.invariant

pub returns-clause-room : goal.returns-clause-room
returns-clause-room g c =
    let s = c.args.self.now in
    let vertices : c.vertices-vertices.result ≡ vertex_count s.graph =
    c.vertices-vertices.ensures.count ∙ ap vertex_count c.graph.ensures.graph in
    room_whole s c.args.d c.loop-x.x c.loop-x.most (omega (arith, vertices, c.loop-x-test.false)) c.loop-x.invariant
