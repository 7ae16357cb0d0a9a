use Rattle.std.proofs.Common.{◌<◌, subst, sym, ap, ◌∙◌}
use Rattle.bmp_poly.specs.Labels.{rank_of, prime_of}
use Rattle.bmp_graph.specs.Graph.{Graph, edge_count}
use Rattle.bmp_graph.specs.declared.edge.Edge.{Edge}
use Rattle.bmp_graph.proofs.GraphLemmas.{edge_number}
use Rattle.bmp_graph.proofs.graph.MomentGraph.edge.Goals as goal

pub returns-clause-rank : goal.returns-clause-rank
returns-clause-rank c =
    let within = subst (λ g. c.args.e < edge_count g) (sym c.self.view_is) c.requires in
    edge_number (λ (d : Edge). rank_of d.label) c.self.inside.edges.items c.args.e _ within c.index.ensures
    ∙ (c.self.invariant.graph.labels c.args.e within).0 ∙ ap (λ (g : Graph). g.rank) c.self.view_is

pub returns-clause-prime : goal.returns-clause-prime
returns-clause-prime c =
    let within = subst (λ g. c.args.e < edge_count g) (sym c.self.view_is) c.requires in
    edge_number (λ (d : Edge). prime_of d.label) c.self.inside.edges.items c.args.e _ within c.index.ensures
    ∙ (c.self.invariant.graph.labels c.args.e within).1 ∙ ap (λ (g : Graph). g.prime) c.self.view_is
