use Rattle.std.proofs.Common.{◌≡◌, ◌+◌, ◌/◌, ◌%◌, ◌^◌, ◌<◌, length, arith, ap, subst, ◌∙◌}
use Rattle.std.specs.Prelude.{slice_index}
use Rattle.bmp_graph.specs.Graph.{IsUpRange, edge_count, upper}
use Rattle.bmp_sheaf.specs.Coordinates.{stalk_count}
use Rattle.bmp_sheaf.specs.States.{stalk_of}
use Rattle.bmp_sheaf.proofs.RuleLemmas.{edge_number_below, is_edge, leads_up, edge_number_is, there_above}
use Rattle.bmp_sheaf.proofs.sheaf.Sheaf.lift_room.Goals as goal

pub overflow_cast-i : goal.overflow_cast-i
overflow_cast-i g c =
    let G = c.args.self.now.graph in
    let range : IsUpRange G c.args.x c.up-first.result.0 c.up-first.result.1 =
    subst (λ H. IsUpRange H c.args.x c.up-first.result.0 c.up-first.result.1) c.graph.ensures.graph
    c.up-first.ensures.range in
    let small : c.up-first.result.1 < 2 ^ 32 = c.up-first.type_inv.1.1.1.0.1 in
    omega (
      arith,
      small,
      edge_number_below G c.graph.ensures.state.over.is_graph c.args.x c.up-first.result.0
          c.up-first.result.1 range c.args.i (length c.args.degrees.now) c.requires.lift,
    )

pub overflow_add-first : goal.overflow_add-first
overflow_add-first g c =
    let G = c.args.self.now.graph in
    let range : IsUpRange G c.args.x c.up-first.result.0 c.up-first.result.1 =
    subst (λ H. IsUpRange H c.args.x c.up-first.result.0 c.up-first.result.1) c.graph.ensures.graph
    c.up-first.ensures.range in
    let small : c.up-first.result.1 < 2 ^ 32 = c.up-first.type_inv.1.1.1.0.1 in
    omega (
      arith,
      small,
      edge_number_below G c.graph.ensures.state.over.is_graph c.args.x c.up-first.result.0
          c.up-first.result.1 range c.args.i (length c.args.degrees.now) c.requires.lift,
    )

pub edge-edge-requires : goal.edge-edge-requires
edge-edge-requires g c =
    let G = c.args.self.now.graph in
    let range : IsUpRange G c.args.x c.up-first.result.0 c.up-first.result.1 =
    subst (λ H. IsUpRange H c.args.x c.up-first.result.0 c.up-first.result.1) c.graph.ensures.graph
    c.up-first.ensures.range in
    let inside : c.up-first.result.0 + c.args.i / length c.args.degrees.now < edge_count G =
    is_edge G c.graph.ensures.state.over.is_graph c.args.x c.up-first.result.0 c.up-first.result.1 range c.args.i
    (length c.args.degrees.now) c.requires.lift in
    omega (arith, inside, ap edge_count c.graph-2.ensures.graph)

pub stalk_len-requires-clause-vertex : goal.stalk_len-requires-clause-vertex
stalk_len-requires-clause-vertex g c =
    let s = c.args.self.now in
    let range : IsUpRange s.graph c.args.x c.up-first.result.0 c.up-first.result.1 =
    subst (λ H. IsUpRange H c.args.x c.up-first.result.0 c.up-first.result.1) c.graph.ensures.graph
    c.up-first.ensures.range in
    let e = c.up-first.result.0 + c.args.i / length c.args.degrees.now in
    let leads = leads_up s.graph c.graph.ensures.state.over.is_graph c.args.x c.up-first.result.0 c.up-first.result.1
    range c.args.i (length c.args.degrees.now) c.requires.lift in
    let ends : c.edge-edge.result.now.upper ≡ upper s.graph e =
    c.edge-edge.ensures.upper ∙ ap (λ G. upper G e) c.graph-2.ensures.graph in
    there_above s c.args.x c.edge-edge.result.now.upper c.requires.left c.requires.next (omega (arith, leads.0, ends))
    (omega (arith, leads.1, ends))

pub returns : goal.returns
returns g c =
    let s = c.args.self.now in
    let range : IsUpRange s.graph c.args.x c.up-first.result.0 c.up-first.result.1 =
    subst (λ H. IsUpRange H c.args.x c.up-first.result.0 c.up-first.result.1) c.graph.ensures.graph
    c.up-first.ensures.range in
    let e = c.up-first.result.0 + c.args.i / length c.args.degrees.now in
    let ends : c.edge-edge.result.now.upper ≡ upper s.graph e =
    c.edge-edge.ensures.upper ∙ ap (λ G. upper G e) c.graph-2.ensures.graph in
    let number = edge_number_is s.graph c.graph.ensures.state.over.is_graph c.args.x c.up-first.result.0
    c.up-first.result.1 range c.args.i (length c.args.degrees.now) c.requires.lift in
    c.stalk_len.ensures
    ∙ ap (λ y. stalk_count s.graph.rank (stalk_of s y).degrees
    (slice_index c.args.degrees.now (c.args.i % length c.args.degrees.now))) (ends ∙ ap (upper s.graph) number)
