use Rattle.std.proofs.Common.{arith, refl, ap₂, ◌∙◌, ◌+◌, ◌<◌, ◌≤◌, length}
use Rattle.bmp_poly.specs.Exponents.{place, count}
use Rattle.bmp_poly.specs.Coefficients.{form}
use Rattle.bmp_poly.proofs.Multiplying.{AreFactors, product_monomial, shift_more, shift_all, term_is}
use Rattle.bmp_poly.proofs.product.add_shifted.Goals as goal

pub place_of-place-requires-clause-monomial : goal.place_of-place-requires-clause-monomial
place_of-place-requires-clause-monomial g c =
    let factors : AreFactors c.args.listed.now.rank c.args.degree c.args.listed.now.degree
    (c.args.degree + c.args.listed.now.degree) c.args.m.now =
    record { rank = c.args.listed.now.listed.rank; first = c.requires.monomial; total = refl } in
    rw (c.rank.ensures.rank, c.degree.ensures.degree, c.joined-product.ensures)
    (product_monomial c.args.listed.now.rank c.args.degree c.args.listed.now.degree
    (c.args.degree + c.args.listed.now.degree) c.args.m.now c.at.result factors c.at.ensures.monomial)

pub loop-j-preserved : goal.loop-j-preserved
loop-j-preserved g c =
    let factors : AreFactors c.args.listed.now.rank c.args.degree c.args.listed.now.degree
    (c.args.degree + c.args.listed.now.degree) c.args.m.now =
    record { rank = c.args.listed.now.listed.rank; first = c.requires.monomial; total = refl } in
    let inside : c.loop-j.j < length c.args.others.now =
    omega (arith, c.requires.others_sized, c.count-j-end.ensures, c.loop-j-test.true) in
    let at = c.place_of-place.ensures.place ∙ ap₂ place c.rank.ensures.rank c.joined-product.ensures in
    shift_more (g.F.Field.is_value c.args.f.now) (g.F.Field.num c.args.f.now) (g.F.Field.size c.args.f.now)
    c.args.listed.now.rank c.args.degree c.args.listed.now.degree (c.args.degree + c.args.listed.now.degree)
    (g.F.Field.num c.args.f.now c.args.c) c.args.m.now factors
    (form (g.F.Field.num c.args.f.now) c.args.listed.now.rank c.args.others.now) c.args.sums.now c.loop-j.sums
    c.loop-j.j c.at.result c.at.ensures.monomial c.at.ensures.place c.place_of-place.result
    c.index-sums-place.result c.add.result (g.F.Field.num c.args.f.now c.mul.result) c.requires.sized at
    c.loop-j.invariant c.index-sums-place.is
    (term_is (g.F.Field.num c.args.f.now) (g.F.Field.size c.args.f.now) c.args.listed.now.rank
    (g.F.Field.num c.args.f.now c.args.c) c.loop-j.j (g.F.Field.num c.args.f.now c.mul.result) c.args.others.now
    c.index-others-j.result c.at.result c.at.ensures.place inside c.index-others-j.is c.mul.ensures.number)
    c.add.ensures.value c.add.ensures.number

pub returns-clause-added : goal.returns-clause-added
returns-clause-added g c =
    let factors : AreFactors c.args.listed.now.rank c.args.degree c.args.listed.now.degree
    (c.args.degree + c.args.listed.now.degree) c.args.m.now =
    record { rank = c.args.listed.now.listed.rank; first = c.requires.monomial; total = refl } in
    let all : count c.args.listed.now.rank c.args.listed.now.degree ≤ c.loop-j.j =
    omega (arith, c.count-j-end.ensures, c.loop-j-test.false) in
    shift_all (g.F.Field.is_value c.args.f.now) (g.F.Field.num c.args.f.now) (g.F.Field.size c.args.f.now)
    c.args.listed.now.rank c.args.degree c.args.listed.now.degree (c.args.degree + c.args.listed.now.degree)
    (g.F.Field.num c.args.f.now c.args.c) c.args.m.now
    (form (g.F.Field.num c.args.f.now) c.args.listed.now.rank c.args.others.now) c.args.sums.now c.loop-j.sums
    c.loop-j.j factors all c.loop-j.invariant
