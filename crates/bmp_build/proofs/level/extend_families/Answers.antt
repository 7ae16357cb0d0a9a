use Rattle.std.proofs.Common.{◌≡◌, ◌+◌, ◌<◌, ◌++◌, ◌∷◌, [], suc, List, refl, ap, subst, ◌∙◌, arith}
use Rattle.bmp_graph.specs.Graph.{Graph, vertex_count}
use Rattle.bmp_levels.specs.Runs.{FamilyTable}
use Rattle.bmp_build.specs.Building.{HoldsFamily}
use Rattle.bmp_build.specs.declared.level_parts.LevelParts.{LevelParts}
use Rattle.bmp_build.proofs.Extending.{IsOfParts, level_fits, next_family, IsTurned, turned_out, turned_more, level_down}
use Rattle.bmp_build.proofs.level.extend_families.Goals as goal

pub extend_level-requires-clause-longer : goal.extend_level-requires-clause-longer
extend_level-requires-clause-longer g c =
    let more : c.degrees.degree < c.args.sheaf.now.degree + 1 =
    omega (arith, c.degrees-test.true, c.degree-degree-end.ensures.degree) in
    (turned_out c.degrees.invariant more c.remove-family.result c.remove-family.ensures.value).holds

pub extend_level-requires-clause-blocks : goal.extend_level-requires-clause-blocks
extend_level-requires-clause-blocks g c =
    let more : c.degrees.degree < c.args.sheaf.now.degree + 1 =
    omega (arith, c.degrees-test.true, c.degree-degree-end.ensures.degree) in
    let blocks : LevelParts = record {
      parts = c.args.parts;
      vertices = c.vertices-vertices.result;
      degree = c.degrees.degree;
    } in
    let of : IsOfParts c.args.sheaf.now.graph c.args.parts.now c.degrees.degree blocks = record {
      parts_are = refl;
      vertices = c.vertices-vertices.ensures.count ∙ ap (λ (G : Graph). vertex_count G) c.graph.ensures.graph;
      degree = refl;
    } in
    level_fits c.requires.on c.requires.down c.requires.level c.requires.shorter (omega (arith, more))
    (turned_out c.degrees.invariant more c.remove-family.result c.remove-family.ensures.value) of

pub degrees-preserved : goal.degrees-preserved
degrees-preserved g c =
    let more : c.degrees.degree < c.args.sheaf.now.degree + 1 =
    omega (arith, c.degrees-test.true, c.degree-degree-end.ensures.degree) in
    let blocks : LevelParts = record {
      parts = c.args.parts;
      vertices = c.vertices-vertices.result;
      degree = c.degrees.degree;
    } in
    let of : IsOfParts c.args.sheaf.now.graph c.args.parts.now c.degrees.degree blocks = record {
      parts_are = refl;
      vertices = c.vertices-vertices.ensures.count ∙ ap (λ (G : Graph). vertex_count G) c.graph.ensures.graph;
      degree = refl;
    } in
    let longer = c.in_ok-longer.longer in
    turned_more c.degrees.invariant more longer
    (c.in_ok-push.ensures.items ∙ ap (λ (l : List FamilyTable). l ++ longer ∷ []) c.remove-family.ensures.items)
    (next_family c.requires.on c.requires.down c.requires.level c.requires.shorter (omega (arith, more))
    (turned_out c.degrees.invariant more c.remove-family.result c.remove-family.ensures.value) of
    c.in_ok-longer.ensures.holds c.in_ok-longer.ensures.extended)

pub returns : goal.returns
returns g c =
    let all : c.degrees.degree ≡ c.args.sheaf.now.degree + 1 =
    omega (arith, c.degrees-test.false, c.degrees.auto.degree-end, c.degree-degree-end.ensures.degree) in
    level_down c.requires.down c.requires.level
    (subst (λ d. IsTurned
    (HoldsFamily c.args.sheaf.now.graph c.args.sheaf.now.degree (suc c.args.k) c.args.parts.now c.args.sheaf.now)
    (HoldsFamily c.args.sheaf.now.graph c.args.sheaf.now.degree c.args.k c.args.parts.now c.args.sheaf.now)
    (c.args.sheaf.now.degree + 1) d c.degrees.families.items) all c.degrees.invariant)
