use Rattle.std.proofs.Common.{◌≡◌, ◌+◌, ◌<◌, ◌∙◌, length, refl, sym, ap, subst, arith}
use Rattle.std.specs.Prelude.{slice_index}
use Rattle.bmp_linear.specs.SparseVectors.{number_at}
use Rattle.bmp_graph.specs.Graph.{IsUpRange, upper}
use Rattle.bmp_sheaf.specs.Coordinates.{edge_module_count}
use Rattle.bmp_sheaf.specs.States.{sheaf_of}
use Rattle.bmp_sections.specs.TupleLists.{tuples_in}
use Rattle.bmp_cover.specs.Evidence.{combined_tuple}
use Rattle.bmp_cover.proofs.BoundaryParts.{edge_room, up_values, up_numbers, up_room, up_below, up_edge}
use Rattle.bmp_cover.proofs.CompareLemmas.{edge_agrees, edge_differs}
use Rattle.bmp_cover.proofs.FaultLemmas.{difference_moved}
use Rattle.bmp_cover.proofs.InputLemmas.{is_edge, starts, goes_on, within, starts_at, ends_at}
use Rattle.bmp_cover.proofs.compare.compare_boundary.Goals as goal

pub loop-edge-init : goal.loop-edge-init
loop-edge-init g c =
    let s = c.args.sheaf.now in
    let state = c.graph-graph.ensures.state in
    let same = c.graph-graph.ensures.graph in
    let range = subst (λ h. IsUpRange h c.args.x c.up-from.result.0 c.up-from.result.1) same c.up-from.ensures.range in
    record {
      start = starts_at s c.args.x c.args.d state c.requires.stalks c.up-from.result.0 c.up-from.result.1 range;
      agree = λ k l. absurd (omega arith);
      first = refl;
    }

pub combine_values-requires-clause-vertex : goal.combine_values-requires-clause-vertex
combine_values-requires-clause-vertex g c =
    let s = c.args.sheaf.now in
    let state = c.graph-graph.ensures.state in
    let same = c.graph-graph.ensures.graph in
    let range = subst (λ h. IsUpRange h c.args.x c.up-from.result.0 c.up-from.result.1) same c.up-from.ensures.range in
    let list = g.T.Sections.list c.args.tuples.now in
    let e = c.loop-edge.edge in
    let up_is = c.edge.ensures.upper ∙ ap (λ h. upper h c.loop-edge.edge) same in
    let size = ap g.F.Field.size c.field.ensures.field ∙ c.field.ensures.size in
    (up_values s c.args.x c.args.d state c.requires.stalks c.up-from.result.0 c.up-from.result.1 range list
    c.requires.tuples e c.loop-edge.auto.edge c.loop-edge-test.true c.edge.result.now.upper
    (g.F.Field.size c.field.result.now) up_is size).has

pub combine_values-requires-clause-numbers : goal.combine_values-requires-clause-numbers
combine_values-requires-clause-numbers g c =
    let s = c.args.sheaf.now in
    let state = c.graph-graph.ensures.state in
    let same = c.graph-graph.ensures.graph in
    let range = subst (λ h. IsUpRange h c.args.x c.up-from.result.0 c.up-from.result.1) same c.up-from.ensures.range in
    let list = g.T.Sections.list c.args.tuples.now in
    let e = c.loop-edge.edge in
    let up_is = c.edge.ensures.upper ∙ ap (λ h. upper h c.loop-edge.edge) same in
    let size = ap g.F.Field.size c.field.ensures.field ∙ c.field.ensures.size in
    up_numbers s c.args.x c.args.d state c.requires.stalks c.up-from.result.0 c.up-from.result.1 range list
    c.requires.tuples e c.loop-edge.auto.edge c.loop-edge-test.true c.edge.result.now.upper
    (g.F.Field.size c.field.result.now) up_is size

pub combine_values-requires-clause-room : goal.combine_values-requires-clause-room
combine_values-requires-clause-room g c =
    let s = c.args.sheaf.now in
    let state = c.graph-graph.ensures.state in
    let same = c.graph-graph.ensures.graph in
    let range = subst (λ h. IsUpRange h c.args.x c.up-from.result.0 c.up-from.result.1) same c.up-from.ensures.range in
    let list = g.T.Sections.list c.args.tuples.now in
    let e = c.loop-edge.edge in
    let up_is = c.edge.ensures.upper ∙ ap (λ h. upper h c.loop-edge.edge) same in
    let size = ap g.F.Field.size c.field.ensures.field ∙ c.field.ensures.size in
    omega (
      arith,
      up_room s c.args.x c.args.d state c.requires.stalks c.up-from.result.0 c.up-from.result.1 range list
          c.requires.tuples e c.loop-edge.auto.edge c.loop-edge-test.true c.edge.result.now.upper
          (g.F.Field.size c.field.result.now) up_is size (length c.args.s.now.first) c.requires.room,
      ap length c.loop-edge.invariant.first,
    )

pub compare_edge-requires-clause-first : goal.compare_edge-requires-clause-first
compare_edge-requires-clause-first g c =
    let s = c.args.sheaf.now in
    let state = c.graph-graph.ensures.state in
    let same = c.graph-graph.ensures.graph in
    let range = subst (λ h. IsUpRange h c.args.x c.up-from.result.0 c.up-from.result.1) same c.up-from.ensures.range in
    let list = g.T.Sections.list c.args.tuples.now in
    let e = c.loop-edge.edge in
    let up_is = c.edge.ensures.upper ∙ ap (λ h. upper h c.loop-edge.edge) same in
    let size = ap g.F.Field.size c.field.ensures.field ∙ c.field.ensures.size in
    let room = edge_room s c.args.x c.args.d state c.requires.stalks c.up-from.result.0 c.up-from.result.1 range list
    c.requires.tuples e c.loop-edge.auto.edge c.loop-edge-test.true (length c.args.s.now.first) c.loop-edge.start
    c.requires.room c.loop-edge.invariant.start in
    let first = c.combine_values.ensures.first ∙ c.loop-edge.invariant.first in
    omega (arith, room, ap length first)

pub compare_edge-requires-clause-numbers : goal.compare_edge-requires-clause-numbers
compare_edge-requires-clause-numbers g c =
    let s = c.args.sheaf.now in
    let state = c.graph-graph.ensures.state in
    let same = c.graph-graph.ensures.graph in
    let range = subst (λ h. IsUpRange h c.args.x c.up-from.result.0 c.up-from.result.1) same c.up-from.ensures.range in
    let list = g.T.Sections.list c.args.tuples.now in
    let e = c.loop-edge.edge in
    let up_is = c.edge.ensures.upper ∙ ap (λ h. upper h c.loop-edge.edge) same in
    let size = ap g.F.Field.size c.field.ensures.field ∙ c.field.ensures.size in
    up_below s c.args.x c.args.d state c.requires.stalks c.up-from.result.0 c.up-from.result.1 range list
    c.requires.tuples e c.loop-edge.auto.edge c.loop-edge-test.true c.edge.result.now.upper
    (g.F.Field.size c.field.result.now) up_is size (number_at c.args.factors.now) c.combine_values.new.s.second
    c.combine_values.ensures.combined (g.met.F.Field.laws.at_least_two c.field.result.now)

pub overflow_add-result : goal.overflow_add-result
overflow_add-result g c =
    let s = c.args.sheaf.now in
    let state = c.graph-graph.ensures.state in
    let same = c.graph-graph.ensures.graph in
    let range = subst (λ h. IsUpRange h c.args.x c.up-from.result.0 c.up-from.result.1) same c.up-from.ensures.range in
    let list = g.T.Sections.list c.args.tuples.now in
    let e = c.loop-edge.edge in
    let up_is = c.edge.ensures.upper ∙ ap (λ h. upper h c.loop-edge.edge) same in
    let size = ap g.F.Field.size c.field.ensures.field ∙ c.field.ensures.size in
    let room = edge_room s c.args.x c.args.d state c.requires.stalks c.up-from.result.0 c.up-from.result.1 range list
    c.requires.tuples e c.loop-edge.auto.edge c.loop-edge-test.true (length c.args.s.now.first) c.loop-edge.start
    c.requires.room c.loop-edge.invariant.start in
    let first = c.combine_values.ensures.first ∙ c.loop-edge.invariant.first in
    omega (arith, room, ap length first, c.in-Some.ensures.below, c.len-start.ensures.first, c.len-start.type_inv)

pub returns-in-Some-clause-compared : goal.returns-in-Some-clause-compared
returns-in-Some-clause-compared g c =
    let s = c.args.sheaf.now in
    let state = c.graph-graph.ensures.state in
    let same = c.graph-graph.ensures.graph in
    let range = subst (λ h. IsUpRange h c.args.x c.up-from.result.0 c.up-from.result.1) same c.up-from.ensures.range in
    let list = g.T.Sections.list c.args.tuples.now in
    let e = c.loop-edge.edge in
    let up_is = c.edge.ensures.upper ∙ ap (λ h. upper h c.loop-edge.edge) same in
    let size = ap g.F.Field.size c.field.ensures.field ∙ c.field.ensures.size in
    let room = edge_room s c.args.x c.args.d state c.requires.stalks c.up-from.result.0 c.up-from.result.1 range list
    c.requires.tuples e c.loop-edge.auto.edge c.loop-edge-test.true (length c.args.s.now.first) c.loop-edge.start
    c.requires.room c.loop-edge.invariant.start in
    let first = c.combine_values.ensures.first ∙ c.loop-edge.invariant.first in
    let t = combined_tuple (number_at c.args.factors.now) (tuples_in s.graph (sheaf_of s) c.args.d list) list.count in
    edge_differs s.graph state.over (sheaf_of s) c.args.x c.args.d (slice_index c.args.s.now.first) t e
    c.loop-edge.start (edge_module_count s.graph (sheaf_of s) c.args.d e)
    (is_edge s c.args.x c.args.d state c.requires.stalks c.up-from.result.0 c.up-from.result.1 range e
    c.loop-edge.auto.edge c.loop-edge-test.true)
    (starts s c.args.x c.args.d state c.requires.stalks c.up-from.result.0 c.up-from.result.1 range e
    c.loop-edge.auto.edge c.loop-edge-test.true) c.loop-edge.invariant.start refl c.in-Some.difference
    (omega (
      arith,
      c.loop-edge.invariant.start,
      within s c.args.x c.args.d state c.requires.stalks c.up-from.result.0 c.up-from.result.1 range e
          c.loop-edge.auto.edge c.loop-edge-test.true,
    )) c.loop-edge.invariant.agree
    (difference_moved _ _ _ _ _ c.in-Some.difference (λ i l. ap (λ w. slice_index w (c.loop-edge.start + i)) first)
    (up_edge s c.args.x c.args.d state c.requires.stalks c.up-from.result.0 c.up-from.result.1 range list
    c.requires.tuples e c.loop-edge.auto.edge c.loop-edge-test.true c.edge.result.now.upper
    (g.F.Field.size c.field.result.now) up_is size (number_at c.args.factors.now) c.combine_values.new.s.second
    c.combine_values.ensures.combined) c.in-Some.ensures)

pub overflow_add-start : goal.overflow_add-start
overflow_add-start g c =
    let s = c.args.sheaf.now in
    let state = c.graph-graph.ensures.state in
    let same = c.graph-graph.ensures.graph in
    let range = subst (λ h. IsUpRange h c.args.x c.up-from.result.0 c.up-from.result.1) same c.up-from.ensures.range in
    let list = g.T.Sections.list c.args.tuples.now in
    let e = c.loop-edge.edge in
    let up_is = c.edge.ensures.upper ∙ ap (λ h. upper h c.loop-edge.edge) same in
    let size = ap g.F.Field.size c.field.ensures.field ∙ c.field.ensures.size in
    let room = edge_room s c.args.x c.args.d state c.requires.stalks c.up-from.result.0 c.up-from.result.1 range list
    c.requires.tuples e c.loop-edge.auto.edge c.loop-edge-test.true (length c.args.s.now.first) c.loop-edge.start
    c.requires.room c.loop-edge.invariant.start in
    let first = c.combine_values.ensures.first ∙ c.loop-edge.invariant.first in
    let many : c.from-start.result ≡ edge_module_count c.args.sheaf.now.graph (sheaf_of c.args.sheaf.now) c.args.d
    c.loop-edge.edge = c.from-start.ensures ∙ c.rows.ensures ∙ c.upper_rows.ensures.matrix.rows in
    omega (arith, room, ap length first, many, c.len-start.ensures.first, c.len-start.type_inv)

pub loop-edge-preserved : goal.loop-edge-preserved
loop-edge-preserved g c =
    let s = c.args.sheaf.now in
    let state = c.graph-graph.ensures.state in
    let same = c.graph-graph.ensures.graph in
    let range = subst (λ h. IsUpRange h c.args.x c.up-from.result.0 c.up-from.result.1) same c.up-from.ensures.range in
    let list = g.T.Sections.list c.args.tuples.now in
    let e = c.loop-edge.edge in
    let up_is = c.edge.ensures.upper ∙ ap (λ h. upper h c.loop-edge.edge) same in
    let size = ap g.F.Field.size c.field.ensures.field ∙ c.field.ensures.size in
    let room = edge_room s c.args.x c.args.d state c.requires.stalks c.up-from.result.0 c.up-from.result.1 range list
    c.requires.tuples e c.loop-edge.auto.edge c.loop-edge-test.true (length c.args.s.now.first) c.loop-edge.start
    c.requires.room c.loop-edge.invariant.start in
    let first = c.combine_values.ensures.first ∙ c.loop-edge.invariant.first in
    let t = combined_tuple (number_at c.args.factors.now) (tuples_in s.graph (sheaf_of s) c.args.d list) list.count in
    let many : c.from-start.result ≡ edge_module_count c.args.sheaf.now.graph (sheaf_of c.args.sheaf.now) c.args.d
    c.loop-edge.edge = c.from-start.ensures ∙ c.rows.ensures ∙ c.upper_rows.ensures.matrix.rows in
    record {
      start = omega (
        arith,
        c.loop-edge.invariant.start,
        many,
        goes_on s c.args.x c.args.d state c.requires.stalks c.up-from.result.0 c.up-from.result.1 range e
            c.loop-edge.auto.edge c.loop-edge-test.true,
      );
      agree =
          edge_agrees s.graph state.over (sheaf_of s) c.args.x c.args.d (slice_index c.args.s.now.first) t e
          c.loop-edge.start c.from-start.result
          (is_edge s c.args.x c.args.d state c.requires.stalks c.up-from.result.0 c.up-from.result.1 range e
          c.loop-edge.auto.edge c.loop-edge-test.true)
          (starts s c.args.x c.args.d state c.requires.stalks c.up-from.result.0 c.up-from.result.1 range e
          c.loop-edge.auto.edge c.loop-edge-test.true) c.loop-edge.invariant.start many c.loop-edge.invariant.agree
          (λ i l. sym (ap (λ w. slice_index w (c.loop-edge.start + i)) first) ∙ c.in_default.ensures i l
          ∙ up_edge s c.args.x c.args.d state c.requires.stalks c.up-from.result.0 c.up-from.result.1 range list
          c.requires.tuples e c.loop-edge.auto.edge c.loop-edge-test.true c.edge.result.now.upper
          (g.F.Field.size c.field.result.now) up_is size (number_at c.args.factors.now)
          c.combine_values.new.s.second c.combine_values.ensures.combined i l);
      first = first;
    }

pub returns-clause-compared : goal.returns-clause-compared
returns-clause-compared g c =
    let s = c.args.sheaf.now in
    let state = c.graph-graph.ensures.state in
    let same = c.graph-graph.ensures.graph in
    let range = subst (λ h. IsUpRange h c.args.x c.up-from.result.0 c.up-from.result.1) same c.up-from.ensures.range in
    let all : c.loop-edge.edge ≡ c.up-from.result.1 =
    omega (arith, range.ordered, c.loop-edge.auto.edge-end, c.loop-edge-test.false) in
    let past = c.loop-edge.invariant.start ∙ ends_at s c.args.x c.args.d state c.requires.stalks c.up-from.result.0
    c.up-from.result.1 range c.loop-edge.edge all in
    λ k l. c.loop-edge.invariant.agree k (subst (λ n. k < n) (sym past) l)
