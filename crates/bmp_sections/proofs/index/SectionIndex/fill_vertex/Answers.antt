use Rattle.std.proofs.Common.{◌≡◌, ◌<◌, ◌∙◌, length, refl, ap, subst, arith}
use Rattle.std.proofs.lemmas.List.{length-set}
use Rattle.bmp_graph.specs.Graph.{IsUpRange, edge_count, lower}
use Rattle.bmp_sheaf.specs.Coordinates.{edge_module_count}
use Rattle.bmp_sheaf.specs.States.{sheaf_of}
use Rattle.bmp_sections.specs.Numbers.{is_above}
use Rattle.bmp_sections.proofs.AboveLemmas.{test_is}
use Rattle.bmp_sections.proofs.IndexLemmas.{positions_within, equations_within, indexed_skipped, filled_none, filled_more, filled_all}
use Rattle.bmp_sections.proofs.index.SectionIndex.fill_vertex.Goals as goal

pub returns-then-not-is_above-clause-indexed : goal.returns-then-not-is_above-clause-indexed
returns-then-not-is_above-clause-indexed g c =
    let s = c.args.sheaf.now in
    let is = c.graph-graph.ensures.state.over.is_graph in
    let same = c.graph-graph.ensures.graph in
    let range = subst (λ h. IsUpRange h c.args.y c.up-from.result.0 c.up-from.result.1) same c.up-from.ensures.range in
    let out = test_is s.graph c.graph-graph.result.now is same c.args.x c.args.y c.is_above.result c.is_above.ensures
    ∙ c.if-not-is_above.true in
    indexed_skipped s.graph (sheaf_of s) c.args.x c.args.d c.args.y c.up-from.result.0 c.up-from.result.1 range
    c.args.self.now out c.requires.earlier

pub stalk_len-requires-clause-vertex : goal.stalk_len-requires-clause-vertex
stalk_len-requires-clause-vertex g c =
    let s = c.args.sheaf.now in
    let is = c.graph-graph.ensures.state.over.is_graph in
    let here = test_is s.graph c.graph-graph.result.now is c.graph-graph.ensures.graph c.args.x c.args.y
    c.is_above.result c.is_above.ensures ∙ c.if-not-is_above.false in
    c.requires.there c.args.y here

pub overflow_cast-self : goal.overflow_cast-self
overflow_cast-self g c =
    let s = c.args.sheaf.now in
    let is = c.graph-graph.ensures.state.over.is_graph in
    let here = test_is s.graph c.graph-graph.result.now is c.graph-graph.ensures.graph c.args.x c.args.y
    c.is_above.result c.is_above.ensures ∙ c.if-not-is_above.false in
    omega (
      arith,
      c.stalk_len.ensures,
      c.requires.room.few_positions,
      positions_within s.graph (sheaf_of s) c.args.x c.args.d c.args.y c.requires.next here,
    )

pub overflow_add-self : goal.overflow_add-self
overflow_add-self g c =
    let s = c.args.sheaf.now in
    let is = c.graph-graph.ensures.state.over.is_graph in
    let here = test_is s.graph c.graph-graph.result.now is c.graph-graph.ensures.graph c.args.x c.args.y
    c.is_above.result c.is_above.ensures ∙ c.if-not-is_above.false in
    omega (
      arith,
      c.stalk_len.ensures,
      c.requires.room.few_positions,
      c.requires.earlier.positions,
      positions_within s.graph (sheaf_of s) c.args.x c.args.d c.args.y c.requires.next here,
    )

pub loop-edge-init : goal.loop-edge-init
loop-edge-init g c =
    let s = c.args.sheaf.now in
    let is = c.graph-graph.ensures.state.over.is_graph in
    let same = c.graph-graph.ensures.graph in
    let range = subst (λ h. IsUpRange h c.args.y c.up-from.result.0 c.up-from.result.1) same c.up-from.ensures.range in
    let here = test_is s.graph c.graph-graph.result.now is same c.args.x c.args.y c.is_above.result c.is_above.ensures
    ∙ c.if-not-is_above.false in
    record {
      filled =
          filled_none s.graph (sheaf_of s) c.args.x c.args.d c.args.y c.up-from.result.0 c.up-from.result.1 range
          c.args.self.now _ c.stalk_len.result c.requires.earlier here
          (omega (arith, c.requires.next, c.requires.room.vertices)) c.stalk_len.ensures refl refl refl refl;
      starts = length-set c.args.self.now.starts.items c.args.y c.args.self.now.positions;
      places = refl;
    }

pub lower_rows-requires-clause-there : goal.lower_rows-requires-clause-there
lower_rows-requires-clause-there g c =
    let s = c.args.sheaf.now in
    let is = c.graph-graph.ensures.state.over.is_graph in
    let same = c.graph-graph.ensures.graph in
    let range = subst (λ h. IsUpRange h c.args.y c.up-from.result.0 c.up-from.result.1) same c.up-from.ensures.range in
    let here = test_is s.graph c.graph-graph.result.now is same c.args.x c.args.y c.is_above.result c.is_above.ensures
    ∙ c.if-not-is_above.false in
    c.requires.there (lower s.graph c.loop-edge.edge)
    (ap (is_above s.graph c.args.x) (range.inside c.loop-edge.edge c.loop-edge.auto.edge c.loop-edge-test.true)
    ∙ here)

pub fill_edge-requires-clause-room : goal.fill_edge-requires-clause-room
fill_edge-requires-clause-room g c =
    let s = c.args.sheaf.now in
    let is = c.graph-graph.ensures.state.over.is_graph in
    let same = c.graph-graph.ensures.graph in
    let e = c.loop-edge.edge in
    let range = subst (λ h. IsUpRange h c.args.y c.up-from.result.0 c.up-from.result.1) same c.up-from.ensures.range in
    let here = test_is s.graph c.graph-graph.result.now is same c.args.x c.args.y c.is_above.result c.is_above.ensures
    ∙ c.if-not-is_above.false in
    let low = ap (is_above s.graph c.args.x) (range.inside e c.loop-edge.auto.edge c.loop-edge-test.true) ∙ here in
    let below : c.loop-edge.edge < edge_count c.args.sheaf.now.graph =
    omega (arith, range.within, c.loop-edge-test.true) in
    omega (
      arith,
      c.rows.ensures,
      c.lower_rows.ensures.matrix.rows,
      c.loop-edge.invariant.filled.equations,
      c.loop-edge.invariant.places,
      c.requires.room.equations,
      equations_within s.graph (sheaf_of s) c.args.x c.args.d is e below low,
    )

pub fill_edge-requires-clause-few : goal.fill_edge-requires-clause-few
fill_edge-requires-clause-few g c =
    let s = c.args.sheaf.now in
    let is = c.graph-graph.ensures.state.over.is_graph in
    let same = c.graph-graph.ensures.graph in
    let e = c.loop-edge.edge in
    let range = subst (λ h. IsUpRange h c.args.y c.up-from.result.0 c.up-from.result.1) same c.up-from.ensures.range in
    let here = test_is s.graph c.graph-graph.result.now is same c.args.x c.args.y c.is_above.result c.is_above.ensures
    ∙ c.if-not-is_above.false in
    let low = ap (is_above s.graph c.args.x) (range.inside e c.loop-edge.auto.edge c.loop-edge-test.true) ∙ here in
    let below : c.loop-edge.edge < edge_count c.args.sheaf.now.graph =
    omega (arith, range.within, c.loop-edge-test.true) in
    omega (
      arith,
      c.rows.ensures,
      c.lower_rows.ensures.matrix.rows,
      c.loop-edge.invariant.filled.equations,
      c.requires.room.few_equations,
      equations_within s.graph (sheaf_of s) c.args.x c.args.d is e below low,
    )

pub loop-edge-preserved : goal.loop-edge-preserved
loop-edge-preserved g c =
    let s = c.args.sheaf.now in
    let is = c.graph-graph.ensures.state.over.is_graph in
    let same = c.graph-graph.ensures.graph in
    let e = c.loop-edge.edge in
    let range = subst (λ h. IsUpRange h c.args.y c.up-from.result.0 c.up-from.result.1) same c.up-from.ensures.range in
    let here = test_is s.graph c.graph-graph.result.now is same c.args.x c.args.y c.is_above.result c.is_above.ensures
    ∙ c.if-not-is_above.false in
    let counted : c.rows.result ≡ edge_module_count c.args.sheaf.now.graph (sheaf_of c.args.sheaf.now) c.args.d
    c.loop-edge.edge = c.rows.ensures ∙ c.lower_rows.ensures.matrix.rows in
    record {
      filled =
          filled_more s.graph (sheaf_of s) c.args.x c.args.d c.args.y c.up-from.result.0 c.up-from.result.1 range is e
          c.rows.result c.loop-edge.self c.fill_edge.new.self
          c.loop-edge.auto.edge c.loop-edge-test.true here counted c.loop-edge.invariant.filled
          c.fill_edge.ensures.positions c.fill_edge.ensures.equations c.fill_edge.ensures.starts
          c.fill_edge.ensures.added c.fill_edge.ensures.kept;
      starts = ap length c.fill_edge.ensures.starts ∙ c.loop-edge.invariant.starts;
      places = c.fill_edge.ensures.places ∙ c.loop-edge.invariant.places;
    }

pub returns-clause-indexed : goal.returns-clause-indexed
returns-clause-indexed g c =
    let s = c.args.sheaf.now in
    let same = c.graph-graph.ensures.graph in
    let range = subst (λ h. IsUpRange h c.args.y c.up-from.result.0 c.up-from.result.1) same c.up-from.ensures.range in
    let all : c.loop-edge.edge ≡ c.up-from.result.1 =
    omega (arith, range.ordered, c.loop-edge.auto.edge-end, c.loop-edge-test.false) in
    filled_all s.graph (sheaf_of s) c.args.x c.args.d c.args.y c.up-from.result.0 c.up-from.result.1 range
    c.loop-edge.edge c.loop-edge.self all c.loop-edge.invariant.filled
