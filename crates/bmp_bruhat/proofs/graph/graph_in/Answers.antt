use Rattle.std.proofs.Common.{◌≡◌, length, List, sym, ap, subst, ◌∙◌}
use Rattle.bmp_roots.specs.RootSystems.{matrix_of}
use Rattle.bmp_interval.specs.IntervalViews.{system_of, word_below, vertices_of}
use Rattle.bmp_bruhat.specs.Labels.{form_in}
use Rattle.bmp_bruhat.specs.Building.{HasEdgesUpTo}
use Rattle.bmp_bruhat.specs.declared.root_edge.RootEdge.{RootEdge}
use Rattle.bmp_bruhat.proofs.GraphLemmas.{HasParts, bruhat_of_parts, no_fault_of_parts}
use Rattle.bmp_bruhat.proofs.graph.graph_in.Goals as goal

pub returns-in-Ok-clause-bruhat : goal.returns-in-Ok-clause-bruhat
returns-in-Ok-clause-bruhat c =
    let found : c.deref.result.now ≡ c.in_ok-found.found.items = c.deref.ensures.value in
    let parts : HasParts (system_of c.args.interval.now) (vertices_of c.args.interval.now) c.args.prime
    (form_in (matrix_of (system_of c.args.interval.now)) c.args.weight) (word_below c.args.interval.now)
    c.in_ok-lengths.lengths.items c.deref.result.now c.in_ok-edges.edges.items =
    record {
      interval = c.in_ok-lengths.ensures.interval.interval;
      some = c.in_ok-lengths.ensures.some;
      measured = c.in_ok-lengths.ensures.lengths;
      all = subst (λ (ds : List RootEdge). HasEdgesUpTo (system_of c.args.interval.now)
          (vertices_of c.args.interval.now) (length (vertices_of c.args.interval.now)) 0 ds)
          (sym found) c.in_ok-found.ensures;
      labels = c.in_ok-edges.ensures.ok;
    } in
    bruhat_of_parts parts c.rank-rank.result c.deref-2.result.now c.deref-3.result.now
    (c.rank-rank.ensures.value ∙ ap (λ z. (matrix_of z).rank) c.roots.ensures)
    c.deref-2.ensures.value c.deref-3.ensures.value c.in-Ok.graph c.in-Ok.ensures.made

pub unreachable-requires : goal.unreachable-requires
unreachable-requires c =
    let found : c.deref.result.now ≡ c.in_ok-found.found.items = c.deref.ensures.value in
    let parts : HasParts (system_of c.args.interval.now) (vertices_of c.args.interval.now) c.args.prime
    (form_in (matrix_of (system_of c.args.interval.now)) c.args.weight) (word_below c.args.interval.now)
    c.in_ok-lengths.lengths.items c.deref.result.now c.in_ok-edges.edges.items =
    record {
      interval = c.in_ok-lengths.ensures.interval.interval;
      some = c.in_ok-lengths.ensures.some;
      measured = c.in_ok-lengths.ensures.lengths;
      all = subst (λ (ds : List RootEdge). HasEdgesUpTo (system_of c.args.interval.now)
          (vertices_of c.args.interval.now) (length (vertices_of c.args.interval.now)) 0 ds)
          (sym found) c.in_ok-found.ensures;
      labels = c.in_ok-edges.ensures.ok;
    } in
    no_fault_of_parts parts c.rank-rank.result c.deref-2.result.now c.deref-3.result.now
    (c.rank-rank.ensures.value ∙ ap (λ z. (matrix_of z).rank) c.roots.ensures)
    c.deref-2.ensures.value c.deref-3.ensures.value c.in-Err.fault c.in-Err.ensures.fault c.in_default.not-Memory
