use Rattle.std.proofs.Common.{◌≡◌, [], List, ap, subst, ◌∙◌}
use Rattle.std.specs.List.{All}
use Rattle.bmp_linear.specs.declared.vector.Entry.{Entry}
use Rattle.bmp_linear.specs.SparseVectors.{ValuesBelow}
use Rattle.bmp_linear.proofs.ShapeLemmas.{all_from_index}
use Rattle.bmp_sheaf_tests.proofs.sheaves.push.Goals as goal

pub push_vertex-requires-clause-values : goal.push_vertex-requires-clause-values
push_vertex-requires-clause-values g c =
    let prime : c.from-prime.result ≡ c.args.sheaf.now.graph.prime = c.from-prime.ensures ∙ c.prime.ensures
    ∙ ap (λ G. G.prime) c.graph.ensures.graph in
    subst (λ p. All (λ v. ValuesBelow v p) c.args.lifts.now) prime
    (all_from_index (λ (v : List Entry). ValuesBelow v c.from-prime.result) c.args.lifts.now c.loop-lift.lift-index []
    c.loop-lift-test.false c.loop-lift.invariant)
