use Rattle.std.proofs.Common.{◌<◌, length, subst, sym}
use Rattle.std.proofs.lemmas.Option.{slice_get_within}
use Rattle.bmp_roots.specs.RootSystems.{matrix_of, positives, positive_roots_of}
use Rattle.bmp_interval.specs.IntervalViews.{system_of, vertices_of}
use Rattle.bmp_graph.specs.Graph.{upper}
use Rattle.bmp_bruhat.specs.Edges.{IsEdge}
use Rattle.bmp_graph_tests.proofs.bruhat.root.Goals as goal

pub root_of-requires : goal.root_of-requires
root_of-requires c =
    let roots = system_of c.args.interval.now in
    let list = vertices_of c.args.interval.now in
    let found = c.requires.graph.each c.args.e c.requires.edge in (
      found.0,
      subst (λ y. IsEdge (matrix_of roots) (positive_roots_of roots) list c.edge.result.now.lower y found.0)
          (sym c.edge.ensures.upper)
          (subst (λ x. IsEdge (matrix_of roots) (positive_roots_of roots) list x (upper c.args.graph.now c.args.e)
          found.0) (sym c.edge.ensures.lower) found.1),
    )

pub pair-requires : goal.pair-requires
pair-requires c =
    subst (λ roots. c.root_of.result < length (positives roots)) (sym c.roots.ensures)
    (slice_get_within (positives (system_of c.args.interval.now)) c.root_of.result c.root_of.ensures.pair
    c.root_of.ensures.pair_is)
