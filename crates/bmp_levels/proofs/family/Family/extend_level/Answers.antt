use Rattle.std.proofs.Common.{◌≡◌, ◌∙◌, ◌+◌, ◌-◌, suc, ap, sym, subst, arith}
use Rattle.bmp_graph.specs.Graph.{vertex_count, length_at}
use Rattle.bmp_levels.specs.Extensions.{IsFirst, IsExtension}
use Rattle.bmp_levels.proofs.Filling.{IsFilled, filled_first, filled_next, of_length, level_filled}
use Rattle.bmp_levels.proofs.Filling.{holds_level, is_extension}
use Rattle.bmp_levels.proofs.Keeping.{keeps_bases}
use Rattle.bmp_levels.proofs.family.Family.extend_level.Goals as goal

pub loop-b-init : goal.loop-b-init
loop-b-init g c =
    let block = g.B.LevelBlocks.block c.args.blocks.now in
    subst (λ n. IsFilled c.args.sheaf.now c.args.k c.args.d block c.args.self n c.args.self)
    (sym c.vertices-start.ensures.count) (filled_first block c.vertices-start.ensures.table c.requires.longer)

pub loop-b-preserved : goal.loop-b-preserved
loop-b-preserved g c =
    let first : IsFirst c.args.sheaf.now.graph c.args.k c.first_of_level-first.result =
    subst (λ G. IsFirst G c.args.k c.first_of_level-first.result) c.graph-graph.ensures.graph
    c.first_of_level-first.ensures in
    let count : c.vertices-vertices.result ≡ vertex_count c.args.sheaf.now.graph =
    c.vertices-vertices.ensures.count ∙ ap vertex_count c.graph-graph.ensures.graph in
    let y = c.vertices-vertices.result - 1 - c.loop-b.b in
    let at : (c.vertices-vertices.result - 1 - c.loop-b.b) + suc c.loop-b.b ≡ vertex_count c.args.sheaf.now.graph =
    omega (arith, count, c.loop-b-test.true) in
    let here : length_at c.args.sheaf.now.graph (c.vertices-vertices.result - 1 - c.loop-b.b) ≡ c.args.k =
    of_length c.requires.longer first c.loop-b.b y at
    (omega (arith, c.loop-b.auto.b, c.vertices-start.ensures.count)) (omega (arith, c.loop-b-test.true, count)) in
    filled_next y c.stalk_len-size.result c.block-block.result.now c.loop-b.invariant at here
    (c.requires.blocks y (omega (arith, at)) here).1 c.stalk_len-size.ensures c.block-block.ensures
    c.in_ok-add_vertex.ensures.added

pub returns : goal.returns
returns g c =
    let block = g.B.LevelBlocks.block c.args.blocks.now in
    let first : IsFirst c.args.sheaf.now.graph c.args.k c.first_of_level-first.result =
    subst (λ G. IsFirst G c.args.k c.first_of_level-first.result) c.graph-graph.ensures.graph
    c.first_of_level-first.ensures in
    let count : c.vertices-vertices.result ≡ vertex_count c.args.sheaf.now.graph =
    c.vertices-vertices.ensures.count ∙ ap vertex_count c.graph-graph.ensures.graph in
    let filled : IsFilled c.args.sheaf.now c.args.k c.args.d (g.B.LevelBlocks.block c.args.blocks.now) c.args.self
    (vertex_count c.args.sheaf.now.graph - c.first_of_level-first.result) c.loop-b.family =
    level_filled c.requires.longer first c.vertices-start.ensures.table c.vertices-start.ensures.count
    (ap (λ n. n - c.first_of_level-first.result) count) c.loop-b.auto.b-end c.loop-b-test.false c.loop-b.invariant in
    let extension : IsExtension c.args.sheaf.now c.args.k c.args.d (g.B.LevelBlocks.block c.args.blocks.now) c.args.self
    c.loop-b.family = is_extension c.requires.longer first filled in
    record { holds = holds_level c.requires.longer first filled; extended = extension; keeps = keeps_bases extension }
