use Rattle.std.proofs.Common.{◌≡◌, ap, subst, ◌∙◌}
use Rattle.bmp_graph.specs.Graph.{IsUpRange, lower}
use Rattle.bmp_sheaf.proofs.UpEdges.{up_place_of}
use Rattle.bmp_sheaf.proofs.sheaf.Sheaf.up_place.Goals as goal

pub returns : goal.returns
returns g c =
    let G = c.args.self.now.graph in
    let x = c.edge.result.now.lower in
    let range : IsUpRange G x c.up-first.result.0 c.up-first.result.1 =
    subst (λ H. IsUpRange H x c.up-first.result.0 c.up-first.result.1) c.graph-graph.ensures.graph
    c.up-first.ensures.range in
    let starts : x ≡ lower G c.args.e = c.edge.ensures.lower ∙ ap (λ H. lower H c.args.e) c.graph-graph.ensures.graph in
    up_place_of G c.args.e x c.up-first.result.0 c.up-first.result.1 range starts c.requires
