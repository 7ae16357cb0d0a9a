use Rattle.std.proofs.Common.{◌≡◌, ◌<◌, ap, ◌∙◌, arith}
use Rattle.bmp_graph.specs.Graph.{Graph, vertex_count}
use Rattle.bmp_check.specs.declared.given.Given.{Given}
use Rattle.bmp_check.specs.BlockOrder.{block_count}
use Rattle.bmp_check.specs.ShapedViews.{graph_in, method_at, cert_in}
use Rattle.bmp_check.proofs.BlockLemmas.{blocks_all, blocks_more}
use Rattle.bmp_check.proofs.RoomLemmas.{IsWithin, table_of, top_of, within_more, own_within}
use Rattle.bmp_check.proofs.scratch.block_room.Goals as goal

pub block-sizes-requires-clause-sizes : goal.block-sizes-requires-clause-sizes
block-sizes-requires-clause-sizes c =
    table_of c.graph-graph.ensures c.given-given.ensures c.sizes-table.ensures c.requires.sizes

pub block-sizes-requires-clause-top : goal.block-sizes-requires-clause-top
block-sizes-requires-clause-top c = top_of c.graph-graph.ensures c.requires.checkable.on.last_is_top

pub each-preserved : goal.each-preserved
each-preserved c =
    let G = graph_in c.args.s.now in
    let m = method_at c.args.s.now in
    let cert = cert_in c.args.s.now in
    let n = c.vertices-vertices.result in
    let D = c.given-given.result.now.degree in
    let vertices : n ≡ vertex_count G =
    c.vertices-vertices.ensures.count ∙ ap (λ (H : Graph). vertex_count H) c.graph-graph.ensures in
    let bound : D ≡ cert.degree = ap (λ (g : Given). g.degree) c.given-given.ensures in
    let x = c.block_at-x.result.0 in
    let d = c.block_at-x.result.1 in
    let rows = c.max-rows.result in
    let most = c.max-most.result in
    let sections = c.max-sections.result in
    let below : c.each.i < block_count n D = omega (arith, c.each-test.true, c.block_count-i-end.ensures.count) in
    let earlier =
    within_more G m cert n D c.each.i {rows = rows} {most = most} {sections = sections}
    (omega (arith, c.max-rows.ensures)) (omega (arith, c.max-most.ensures)) (omega (arith, c.max-sections.ensures))
    c.each.invariant in
    let here : IsWithin G m cert rows most sections x d =
    own_within c.graph-graph.ensures c.given-given.ensures x d c.block-sizes.result c.block-sizes.ensures
    (omega (arith, c.max-rows.ensures)) (omega (arith, c.max-most.ensures, c.largest.ensures))
    (omega (arith, c.max-sections.ensures)) in
    blocks_more G cert (IsWithin G m cert rows most sections) n D c.each.i vertices bound earlier x d below
    c.block_at-x.ensures.vertex c.block_at-x.ensures.degree here

pub returns-clause-rows : goal.returns-clause-rows
returns-clause-rows c =
    let G = graph_in c.args.s.now in
    let m = method_at c.args.s.now in
    let cert = cert_in c.args.s.now in
    let n = c.vertices-vertices.result in
    let D = c.given-given.result.now.degree in
    let vertices : n ≡ vertex_count G =
    c.vertices-vertices.ensures.count ∙ ap (λ (H : Graph). vertex_count H) c.graph-graph.ensures in
    let bound : D ≡ cert.degree = ap (λ (g : Given). g.degree) c.given-given.ensures in
    λ x d block.
    (blocks_all G cert (IsWithin G m cert c.each.rows c.each.most c.each.sections) n D c.each.i vertices bound
    c.each.invariant
    (omega (arith, c.each-test.false, c.block_count-i-end.ensures.count)) x d block).0

pub returns-clause-sizes : goal.returns-clause-sizes
returns-clause-sizes c =
    let G = graph_in c.args.s.now in
    let m = method_at c.args.s.now in
    let cert = cert_in c.args.s.now in
    let n = c.vertices-vertices.result in
    let D = c.given-given.result.now.degree in
    let vertices : n ≡ vertex_count G =
    c.vertices-vertices.ensures.count ∙ ap (λ (H : Graph). vertex_count H) c.graph-graph.ensures in
    let bound : D ≡ cert.degree = ap (λ (g : Given). g.degree) c.given-given.ensures in
    λ x d block.
    (blocks_all G cert (IsWithin G m cert c.each.rows c.each.most c.each.sections) n D c.each.i vertices bound
    c.each.invariant
    (omega (arith, c.each-test.false, c.block_count-i-end.ensures.count)) x d block).1

pub returns-clause-sections : goal.returns-clause-sections
returns-clause-sections c =
    let G = graph_in c.args.s.now in
    let m = method_at c.args.s.now in
    let cert = cert_in c.args.s.now in
    let n = c.vertices-vertices.result in
    let D = c.given-given.result.now.degree in
    let vertices : n ≡ vertex_count G =
    c.vertices-vertices.ensures.count ∙ ap (λ (H : Graph). vertex_count H) c.graph-graph.ensures in
    let bound : D ≡ cert.degree = ap (λ (g : Given). g.degree) c.given-given.ensures in
    λ x d block.
    (blocks_all G cert (IsWithin G m cert c.each.rows c.each.most c.each.sections) n D c.each.i vertices bound
    c.each.invariant
    (omega (arith, c.each-test.false, c.block_count-i-end.ensures.count)) x d block).2
