use Rattle.std.proofs.Common.{◌≡◌, ◌+◌, ◌-◌, ◌<◌, ◌≤◌, suc, List, [], ◌∷◌, ◌++◌, length, sym, ap₂, subst, ◌∙◌, arith}
use Rattle.bmp_graph.specs.Graph.{Graph, vertex_count, length_at}
use Rattle.bmp_levels.specs.Runs.{FamilyTable}
use Rattle.bmp_cert.specs.declared.cert.VertexPart.{VertexPart}
use Rattle.bmp_build.specs.BuiltGraphs.{top_part}
use Rattle.bmp_build.specs.Building.{last_length, IsBuiltDown, IsLevelThere, IsTopFamily, HasEach}
use Rattle.bmp_build.proofs.Beginning.{first_down}
use Rattle.bmp_build.proofs.Downward.{pushed, next_in, level_begun, next_shorter, level_more, level_last, are_built}
use Rattle.bmp_build.proofs.levels.build_levels.Goals as goal

pub levels-init : goal.levels-init
levels-init g c =
    let G = c.args.graph.now in
    let s = c.in_ok-sheaf.sheaf in
    let items = c.in_ok-families.families.items in
    let parts : c.push.new.self ≡ top_part ∷ [] =
    c.in_ok-push.ensures.ok
    ∙ ap₂ (λ (l : List VertexPart) (p : VertexPart). l ++ p ∷ []) c.new-parts.ensures c.in_ok-top.ensures in
    subst (λ (l : List VertexPart). IsBuiltDown G c.args.degree (last_length G l) (last_length G l) s l items)
    (sym parts)
    (first_down c.requires.on c.in_ok-sheaf.ensures
    (subst (λ n. HasEach (IsTopFamily s) (n + 1) items) c.in_ok-sheaf.ensures.degree c.in_ok-families.ensures))

pub build_level-requires-clause-down : goal.build_level-requires-clause-down
build_level-requires-clause-down g c κs within =
    let k = c.next_length-k.result in
    let left : length c.levels.parts < vertex_count c.args.graph.now =
    omega (
      arith,
      c.levels-test.true,
      c.pushed.ensures.count,
      c.vertices.ensures.count,
      pushed c.levels.invariant,
    ) in
    subst (λ (l : List FamilyTable). IsBuiltDown c.levels.sheaf.graph c.levels.sheaf.degree (suc k) k c.levels.sheaf
    c.levels.parts l) (sym c.deref-in-levels.ensures.value)
    (level_begun c.requires.on.graph c.levels.invariant left (next_in c.levels.invariant c.next_length-k.ensures))

pub extend_families-requires-clause-shorter : goal.extend_families-requires-clause-shorter
extend_families-requires-clause-shorter g c =
    let left : length c.levels.parts < vertex_count c.args.graph.now =
    omega (
      arith,
      c.levels-test.true,
      c.pushed.ensures.count,
      c.vertices.ensures.count,
      pushed c.levels.invariant,
    ) in
    subst (λ (H : Graph). c.next_length-k.result < length_at H (vertex_count H - 1))
    (sym (c.in_ok-build_level.ensures.down.graph ∙ c.levels.invariant.graph))
    (next_shorter c.requires.on.graph c.levels.invariant left (next_in c.levels.invariant c.next_length-k.ensures))

pub levels-smaller : goal.levels-smaller
levels-smaller g c =
    let left : length c.levels.parts < vertex_count c.args.graph.now =
    omega (
      arith,
      c.levels-test.true,
      c.pushed.ensures.count,
      c.vertices.ensures.count,
      pushed c.levels.invariant,
    ) in
    let level : IsLevelThere c.args.graph.now c.next_length-k.result c.build_level.new.parts =
    subst (λ (H : Graph). IsLevelThere H c.next_length-k.result c.build_level.new.parts) c.levels.invariant.graph
    c.in_ok-build_level.ensures.level in
    let more : length c.levels.parts < length c.build_level.new.parts =
    level_more c.levels.parts level left (next_in c.levels.invariant c.next_length-k.ensures) in
    let less : vertex_count c.args.graph.now - length c.build_level.new.parts
    < vertex_count c.args.graph.now - length c.levels.parts =
    omega (arith, more, left) in
    less

pub levels-preserved : goal.levels-preserved
levels-preserved g c =
    let G = c.args.graph.now in
    let k = c.next_length-k.result in
    let s = c.build_level.new.sheaf in
    let parts = c.build_level.new.parts in
    let items = c.extend_families.new.families.items in
    let left : length c.levels.parts < vertex_count c.args.graph.now =
    omega (
      arith,
      c.levels-test.true,
      c.pushed.ensures.count,
      c.vertices.ensures.count,
      pushed c.levels.invariant,
    ) in
    let next = next_in c.levels.invariant c.next_length-k.ensures in
    let level : IsLevelThere c.args.graph.now c.next_length-k.result c.build_level.new.parts =
    subst (λ (H : Graph). IsLevelThere H c.next_length-k.result c.build_level.new.parts) c.levels.invariant.graph
    c.in_ok-build_level.ensures.level in
    let down : IsBuiltDown c.args.graph.now c.args.degree c.next_length-k.result c.next_length-k.result
    c.build_level.new.sheaf c.build_level.new.parts c.extend_families.new.families.items =
    subst (λ (H : Graph). IsBuiltDown H c.args.degree k k s parts items)
    (c.in_ok-build_level.ensures.down.graph ∙ c.levels.invariant.graph)
    (subst (λ n. IsBuiltDown s.graph n k k s parts items)
    (c.in_ok-build_level.ensures.down.degree ∙ c.levels.invariant.degree) c.in_ok-extend_families.ensures) in
    let last : last_length c.args.graph.now c.build_level.new.parts ≡ c.next_length-k.result =
    level_last c.levels.parts c.requires.on.graph down (level_more c.levels.parts level left next) next in
    subst (λ n. IsBuiltDown G c.args.degree n n s parts items) (sym last) down

pub returns : goal.returns
returns g c =
    let all : vertex_count c.args.graph.now ≤ length c.levels.parts =
    omega (
      arith,
      c.levels-test.false,
      c.pushed.ensures.count,
      c.vertices.ensures.count,
      pushed c.levels.invariant,
    ) in
    are_built c.levels.invariant all
