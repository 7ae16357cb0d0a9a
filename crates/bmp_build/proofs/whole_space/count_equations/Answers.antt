use Rattle.std.proofs.Common.{◌≡◌, ℕ, ◌+◌, ◌∙◌, ap, arith}
use Rattle.bmp_graph.specs.Graph.{vertex_count}
use Rattle.bmp_sheaf.specs.States.{sheaf_of}
use Rattle.bmp_sections.proofs.AboveLemmas.{test_is}
use Rattle.bmp_build.proofs.WholeSizes.{none_counted, counted_as, counted_past, counted_more, all_positions, all_equations}
use Rattle.bmp_build.proofs.whole_space.count_equations.Goals as goal
use Rattle.bmp_build.proofs.whole_space.count_equations.Goals.{then-is_above+in_ok-positions+in_ok-equations, else-is_above}

pub vertices-init : goal.vertices-init
vertices-init g c = none_counted c.args.sheaf.now.graph (sheaf_of c.args.sheaf.now) c.args.x c.args.d

pub stalk_len-requires-clause-vertex : goal.stalk_len-requires-clause-vertex
stalk_len-requires-clause-vertex g c =
    let found = c.graph-in-vertices in
    c.requires.there c.vertices.y
    (test_is c.args.sheaf.now.graph found.result.now found.ensures.state.over.is_graph found.ensures.graph c.args.x
    c.vertices.y c.is_above.result c.is_above.ensures ∙ c.if-is_above.true)

pub boundary_len-requires-clause-vertex : goal.boundary_len-requires-clause-vertex
boundary_len-requires-clause-vertex g c =
    let found = c.graph-in-vertices in
    c.requires.there c.vertices.y
    (test_is c.args.sheaf.now.graph found.result.now found.ensures.state.over.is_graph found.ensures.graph c.args.x
    c.vertices.y c.is_above.result c.is_above.ensures ∙ c.if-is_above.true)

pub vertices-preserved : goal.vertices-preserved
vertices-preserved g c =
    let s = c.args.sheaf.now in
    let found = c.graph-in-vertices in
    let tested = test_is s.graph found.result.now found.ensures.state.over.is_graph found.ensures.graph c.args.x
    c.vertices.y c.is_above.result c.is_above.ensures in
    elim c.if-is_above.branch [
      | then-is_above+in_ok-positions+in_ok-equations w ↦
          let positions = w.in_ok-positions.ensures in
          let equations = w.in_ok-equations.ensures in
          counted_as s.graph (sheaf_of s) c.args.x c.args.d
          (counted_more s.graph (sheaf_of s) c.args.x c.args.d c.vertices.invariant (tested ∙ w.if-is_above.true)
          (positions.0 ∙ ap (λ n. c.vertices.positions + n) w.stalk_len.ensures) positions.1
          (equations.0 ∙ ap (λ n. c.vertices.equations + n) w.boundary_len.ensures) equations.1) w.positions-is
          w.equations-is
      | else-is_above w ↦
          counted_as s.graph (sheaf_of s) c.args.x c.args.d
          (counted_past s.graph (sheaf_of s) c.args.x c.args.d c.vertices.invariant
          (tested ∙ w.if-is_above.false)) w.positions-is w.equations-is
    ]

pub returns-clause-number : goal.returns-clause-number
returns-clause-number g c =
    let s = c.args.sheaf.now in
    let all : c.vertices.y ≡ vertex_count s.graph =
    omega (
      arith,
      c.vertices-test.false,
      c.vertices.auto.y-end,
      c.vertices-y-end.ensures.count,
      ap vertex_count c.graph.ensures.graph,
    ) in
    all_equations s.graph (sheaf_of s) c.args.x c.args.d c.graph.ensures.state.over.is_graph c.vertices.invariant all

pub returns-clause-few_positions : goal.returns-clause-few_positions
returns-clause-few_positions g c =
    let s = c.args.sheaf.now in
    let all : c.vertices.y ≡ vertex_count s.graph =
    omega (
      arith,
      c.vertices-test.false,
      c.vertices.auto.y-end,
      c.vertices-y-end.ensures.count,
      ap vertex_count c.graph.ensures.graph,
    ) in
    all_positions s.graph (sheaf_of s) c.args.x c.args.d c.graph.ensures.state.over.is_graph c.vertices.invariant all
