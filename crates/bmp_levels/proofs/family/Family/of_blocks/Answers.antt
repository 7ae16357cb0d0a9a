use Rattle.std.proofs.Common.{◌≡◌, ◌-◌, ◌<◌, ◌≤◌, length, ap, sym, subst, arith}
use Rattle.bmp_graph.specs.Graph.{vertex_count, length_at}
use Rattle.bmp_sheaf.specs.States.{sheaf_of}
use Rattle.bmp_levels.specs.Levels.{level_vertices}
use Rattle.bmp_levels.specs.Lists.{SameList}
use Rattle.bmp_levels.specs.Runs.{list_of}
use Rattle.bmp_levels.proofs.Families.{family_top}
use Rattle.bmp_levels.proofs.WholeFamilies.{next_holds, next_fits, made_more, all_holds, all_families}
use Rattle.bmp_levels.proofs.family.Family.of_blocks.Goals as goal

pub loop-graph-init : goal.loop-graph-init
loop-graph-init g c =
    let G = c.args.sheaf.now.graph in
    let top = vertex_count G - 1 in
    record {
      level = length_at G top;
      below = omega arith;
      holds = c.in_ok-family.ensures.holds;
      same =
          subst (SameList (level_vertices G (length_at G top)) (list_of c.in_ok-family.family))
          (sym (family_top G (sheaf_of c.args.sheaf.now) c.args.d top (g.B.LevelBlocks.block c.args.blocks.now)))
          c.in_ok-family.ensures.family;
    }

pub extend_level-requires-clause-longer : goal.extend_level-requires-clause-longer
extend_level-requires-clause-longer g c =
    let few : length c.loop-graph.family.runs < vertex_count c.args.sheaf.now.graph =
    omega (
      arith,
      c.loop-graph-test.true,
      c.vertices.ensures.count,
      c.vertices-in-loop-graph.ensures.count,
      ap vertex_count c.graph-graph.ensures.graph,
    ) in
    let next : c.next_length-k.result
    ≡ length_at c.args.sheaf.now.graph (vertex_count c.args.sheaf.now.graph - 1 - length c.loop-graph.family.runs) =
    subst (λ G. c.next_length-k.result ≡ length_at G (vertex_count G - 1 - length c.loop-graph.family.runs))
    c.graph-graph.ensures.graph c.next_length-k.ensures in
    next_holds c.graph-graph.ensures.state.over.is_graph c.loop-graph.invariant few next

pub extend_level-requires-clause-blocks : goal.extend_level-requires-clause-blocks
extend_level-requires-clause-blocks g c =
    let few : length c.loop-graph.family.runs < vertex_count c.args.sheaf.now.graph =
    omega (
      arith,
      c.loop-graph-test.true,
      c.vertices.ensures.count,
      c.vertices-in-loop-graph.ensures.count,
      ap vertex_count c.graph-graph.ensures.graph,
    ) in
    let next : c.next_length-k.result
    ≡ length_at c.args.sheaf.now.graph (vertex_count c.args.sheaf.now.graph - 1 - length c.loop-graph.family.runs) =
    subst (λ G. c.next_length-k.result ≡ length_at G (vertex_count G - 1 - length c.loop-graph.family.runs))
    c.graph-graph.ensures.graph c.next_length-k.ensures in
    next_fits c.graph-graph.ensures.state.over.is_graph c.loop-graph.invariant few next
    (g.B.LevelBlocks.has c.args.blocks.now) c.requires.blocks

pub loop-graph-preserved : goal.loop-graph-preserved
loop-graph-preserved g c =
    let few : length c.loop-graph.family.runs < vertex_count c.args.sheaf.now.graph =
    omega (
      arith,
      c.loop-graph-test.true,
      c.vertices.ensures.count,
      c.vertices-in-loop-graph.ensures.count,
      ap vertex_count c.graph-graph.ensures.graph,
    ) in
    let next : c.next_length-k.result
    ≡ length_at c.args.sheaf.now.graph (vertex_count c.args.sheaf.now.graph - 1 - length c.loop-graph.family.runs) =
    subst (λ G. c.next_length-k.result ≡ length_at G (vertex_count G - 1 - length c.loop-graph.family.runs))
    c.graph-graph.ensures.graph c.next_length-k.ensures in
    made_more c.graph-graph.ensures.state.over.is_graph c.loop-graph.invariant few next c.in_ok-family-2.ensures.holds
    c.in_ok-family-2.ensures.extended

pub returns : goal.returns
returns g c =
    let all : vertex_count c.args.sheaf.now.graph ≤ length c.loop-graph.family.runs =
    omega (
      arith,
      c.loop-graph-test.false,
      c.vertices.ensures.count,
      c.vertices-in-loop-graph.ensures.count,
      ap vertex_count c.graph-graph.ensures.graph,
    ) in
    record { holds = all_holds c.loop-graph.invariant all; families = all_families c.loop-graph.invariant all }
