use Rattle.std.proofs.Common.{arith, ◌≡◌, ◌+◌, ◌-◌, ◌∙◌, ◌<◌, ap, sum, subst}
use Rattle.bmp_poly.specs.Exponents.{count, place, exponents}
use Rattle.bmp_poly.specs.Shifts.{joined}
use Rattle.bmp_graded.specs.Quotients.{insert}
use Rattle.bmp_graded.proofs.PureLemmas.{without_monomial}
use Rattle.bmp_module.specs.Tables.{ArePlaces}
use Rattle.bmp_module.proofs.TabledBlocks.{places_none, places_more, product_monomial}
use Rattle.bmp_module.proofs.tabled.find_places.Goals as goal

pub joined-product-requires : goal.joined-product-requires
joined-product-requires c =
    let at : c.leading-leading.result - 1 ≡ c.args.label.now.leading =
    omega (arith, c.leading-leading.ensures.leading) in
    let inside : c.loop-j.j < count (c.args.label.now.rank - 1) c.args.degree =
    subst (λ r. c.loop-j.j < count (r - 1) c.args.degree) c.rank-rank.ensures
    (omega (arith, c.loop-j-test.true, c.count-j-end.ensures.number)) in
    let e_is : c.monomial_without-e.result ≡ insert c.args.label.now.leading
    (exponents 5 (c.args.label.now.rank - 1) c.args.degree c.loop-j.j) =
    c.monomial_without-e.ensures
    ∙ ap (λ z. insert z (exponents 5 (c.rank-rank.result - 1) c.args.degree c.loop-j.j)) at
    ∙ ap (λ z. insert c.args.label.now.leading (exponents 5 (z - 1) c.args.degree c.loop-j.j))
    c.rank-rank.ensures in
    let size = ap sum e_is
    ∙ (without_monomial c.args.label.now.rank c.args.label.now.leading c.args.degree c.loop-j.j
    c.args.label.now.leads.here c.args.label.now.leads.rank inside).size in
    omega (arith, size, c.requires.degree)

pub place_of-requires-clause-monomial : goal.place_of-requires-clause-monomial
place_of-requires-clause-monomial c =
    let at : c.leading-leading.result - 1 ≡ c.args.label.now.leading =
    omega (arith, c.leading-leading.ensures.leading) in
    let inside : c.loop-j.j < count (c.args.label.now.rank - 1) c.args.degree =
    subst (λ r. c.loop-j.j < count (r - 1) c.args.degree) c.rank-rank.ensures
    (omega (arith, c.loop-j-test.true, c.count-j-end.ensures.number)) in
    rw c.joined-product.ensures
    (product_monomial c.args.label.now.rank c.rank-rank.result c.args.label.now.leading _ c.args.degree _
    (sum c.args.m.now) c.loop-j.j c.args.m.now c.monomial_without-e.result c.rank-rank.ensures at
    c.args.label.now.leads.here c.args.label.now.leads.rank c.requires.monomial inside c.monomial_without-e.ensures
    (ap (λ z. c.args.degree + z) c.degree_of.ensures))

pub loop-j-init : goal.loop-j-init
loop-j-init c = places_none c.args.label.now.rank c.args.label.now.leading c.args.degree
    (c.args.degree + sum c.args.m.now) c.args.m.now _ c.clear.ensures.items

pub loop-j-preserved : goal.loop-j-preserved
loop-j-preserved c =
    let at : c.leading-leading.result - 1 ≡ c.args.label.now.leading =
    omega (arith, c.leading-leading.ensures.leading) in
    let e_is : c.monomial_without-e.result ≡ insert c.args.label.now.leading
    (exponents 5 (c.args.label.now.rank - 1) c.args.degree c.loop-j.j) =
    c.monomial_without-e.ensures
    ∙ ap (λ z. insert z (exponents 5 (c.rank-rank.result - 1) c.args.degree c.loop-j.j)) at
    ∙ ap (λ z. insert c.args.label.now.leading (exponents 5 (z - 1) c.args.degree c.loop-j.j))
    c.rank-rank.ensures in
    let is : c.place_of.result ≡ place c.args.label.now.rank
    (joined c.args.m.now
    (insert c.args.label.now.leading (exponents 5 (c.args.label.now.rank - 1) c.args.degree c.loop-j.j))) =
    c.place_of.ensures.place ∙ ap (λ z. place z c.joined-product.result) c.rank-rank.ensures
    ∙ ap (place c.args.label.now.rank) (c.joined-product.ensures ∙ ap (joined c.args.m.now) e_is) in
    let below = rw (c.rank-rank.ensures, c.degree_of.ensures) at c.place_of.ensures.below in
    rw c.in_ok-push.ensures.items
    (places_more c.args.label.now.rank c.args.label.now.leading c.args.degree (c.args.degree + sum c.args.m.now)
    c.args.m.now c.loop-j.j c.loop-j.places.items c.place_of.result c.loop-j.invariant is below)

pub returns-clause-places : goal.returns-clause-places
returns-clause-places c =
    let last : c.loop-j.j ≡ c.count-j-end.result = omega (arith, c.loop-j.auto.j-end, c.loop-j-test.false) in
    let all : c.loop-j.j ≡ count (c.args.label.now.rank - 1) c.args.degree = last ∙ c.count-j-end.ensures.number
    ∙ ap (λ r. count (r - 1) c.args.degree) c.rank-rank.ensures in
    subst (λ n. ArePlaces c.args.label.now.rank c.args.label.now.leading c.args.degree c.args.m.now n
    c.loop-j.places.items) all c.loop-j.invariant.are

pub returns-clause-below : goal.returns-clause-below
returns-clause-below c = c.loop-j.invariant.below
