use Rattle.std.proofs.Common.{◌≡◌, ◌*◌, length, refl, sym, ap, subst, ◌∙◌, inl, arith}
use Rattle.bmp_graph.specs.Graph.{IsUpRange}
use Rattle.bmp_sheaf.specs.Written.{up_count}
use Rattle.bmp_sheaf.proofs.UpEdges.{up_count_is}
use Rattle.bmp_sheaf.proofs.sheaf.Sheaf.check.Goals as goal

pub returns-then-count-from-clause-fault : goal.returns-then-count-from-clause-fault
returns-then-count-from-clause-fault g c =
    let G = c.args.self.now.graph in
    let range : IsUpRange G c.args.x c.up-first.result.0 c.up-first.result.1 =
    subst (λ H. IsUpRange H c.args.x c.up-first.result.0 c.up-first.result.1) c.graph.ensures.graph
    c.up-first.ensures.range in
    let count : c.from.result ≡ up_count G c.args.x =
    c.from.ensures ∙ sym (up_count_is G c.args.x c.up-first.result.0 c.up-first.result.1 range) in (
      c.in_default.ensures,
      λ k below. omega (arith, c.in_default-first_over.ensures k below, c.degree.ensures.degree),
      inl (λ counted. c.if-count-from.true (counted ∙ ap (λ z. z * length c.args.degrees.now) (sym count)), refl),
    )

pub check_lifts-requires-clause-counted : goal.check_lifts-requires-clause-counted
check_lifts-requires-clause-counted g c =
    let G = c.args.self.now.graph in
    let range : IsUpRange G c.args.x c.up-first.result.0 c.up-first.result.1 =
    subst (λ H. IsUpRange H c.args.x c.up-first.result.0 c.up-first.result.1) c.graph.ensures.graph
    c.up-first.ensures.range in
    let count : c.from.result ≡ up_count G c.args.x =
    c.from.ensures ∙ sym (up_count_is G c.args.x c.up-first.result.0 c.up-first.result.1 range) in
    c.if-count-from.false ∙ ap (λ z. z * length c.args.degrees.now) count
