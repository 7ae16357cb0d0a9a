use Rattle.std.proofs.Common.{◌≡◌, ◌+◌, Fits, w32, arith, rules, subst, sym, ◌∙◌}
use Rattle.bmp_graph.specs.Graph.{upper}
use Rattle.bmp_graph.specs.Tables.{IsNextEnding}
use Rattle.bmp_graph.proofs.GraphLemmas.{edge_rises, lower_rises}
use Rattle.bmp_graph.proofs.TableLemmas.{IsUpRange-has}
use Rattle.bmp_graph.proofs.GkmLemmas.{starts_there, IsNextEnd-more, HasNoEnd-more}
use Rattle.bmp_graph.proofs.graph.MomentGraph.next_at.Goals as goal

pub overflow_add-e : goal.overflow_add-e
overflow_add-e c = omega (arith, c.next_ending-ending.ensures.after)

pub first_of-requires-clause-ending : goal.first_of-requires-clause-ending
first_of-requires-clause-ending c =
    let ends : upper c.args.self.now c.args.e ≡ c.args.x = sym c.edge.ensures.upper ∙ c.if-edge-x.true in
    subst (λ x. IsNextEnding c.args.self.now x (c.args.e + 1) c.next_ending-ending.result) ends
    c.next_ending-ending.ensures

pub first_of-requires-clause-starts : goal.first_of-requires-clause-starts
first_of-requires-clause-starts c =
    λ d lt within.
    let ends : upper c.args.self.now c.args.e ≡ c.args.x = sym c.edge.ensures.upper ∙ c.if-edge-x.true in
    let level = lower_rises _ c.edge.ensures.graph d c.args.e (omega arith) c.requires.edge.is_edge in
    let rises = edge_rises _ c.edge.ensures.graph c.args.e c.requires.edge.is_edge in
    omega arith

pub overflow_add-e-2 : goal.overflow_add-e-2
overflow_add-e-2 c =
    let starts = starts_there _ c.args.x c.args.e _ c.requires.edge c.edge.ensures.upper c.if-edge-x.false in
    let inside = (IsUpRange-has _ c.args.x _ _ c.args.e c.up-past.ensures.range c.requires.edge.is_edge starts).1 in
    let past_fits : Fits w32 c.up-past.result.1 = search rules in
    omega arith

pub returns-then-e-past : goal.returns-then-e-past
returns-then-e-past c =
    IsNextEnd-more _ c.edge.ensures.graph c.args.x c.args.e _ _ c.requires.edge.is_edge
    (starts_there _ c.args.x c.args.e _ c.requires.edge c.edge.ensures.upper c.if-edge-x.false) c.up-past.ensures.range
    c.if-e-past.true

pub returns-else-e-past : goal.returns-else-e-past
returns-else-e-past c =
    HasNoEnd-more _ c.edge.ensures.graph c.args.x c.args.e _ _ c.requires.edge.is_edge
    (starts_there _ c.args.x c.args.e _ c.requires.edge c.edge.ensures.upper c.if-edge-x.false) c.up-past.ensures.range
    (omega arith)
