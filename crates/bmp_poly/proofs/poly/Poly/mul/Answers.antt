use Rattle.std.proofs.Common.{arith, rules, sym, ap, ap₂, ◌≡◌, ◌∙◌, ◌+◌, ◌<◌, length}
use Rattle.bmp_poly.specs.Exponents.{count, exponents}
use Rattle.bmp_poly.specs.Products.{product}
use Rattle.bmp_poly.specs.Polynomials.{form_of, HasShape}
use Rattle.bmp_poly.proofs.Multiplying.{product_none, product_more, product_past, product_all, product_as, shift_added_as, written_back, form_at}
use Rattle.bmp_poly.proofs.poly.Poly.mul.Goals as goal

pub loop-i-init : goal.loop-i-init
loop-i-init g c =
    let rank = ap (λ a. a.rank) c.self.view_is in
    let degree = ap (λ a. a.degree) c.self.view_is in
    let other_degree = ap (λ a. a.degree) c.other.view_is in
    product_none (g.F.Field.is_value c.args.f.now) (g.F.Field.num c.args.f.now) (g.F.Field.size c.args.f.now)
    c.args.self.now.rank c.args.self.now.degree c.args.other.now.degree
    (form_of (g.F.Field.num c.args.f.now) c.args.self.now) (form_of (g.F.Field.num c.args.f.now) c.args.other.now)
    c.in_ok-coefficients.coefficients.items (c.in_ok-coefficients.ensures.sized
    ∙ ap₂ count rank (ap₂ (λ x y. x + y) degree other_degree)) c.in_ok-coefficients.ensures.values
    c.in_ok-coefficients.ensures.zero

pub loop-i-preserved-then-num-eq0 : goal.loop-i-preserved-then-num-eq0
loop-i-preserved-then-num-eq0 g c =
    let rank = ap (λ a. a.rank) c.self.view_is in
    let degree = ap (λ a. a.degree) c.self.view_is in
    let items = ap (λ a. a.coefficients) c.self.view_is in
    let shape : HasShape c.args.self.now.rank c.args.self.now.degree c.args.self.now.coefficients =
    rw (rank, degree, items) at c.self.invariant in
    let below : c.loop-i.i < count c.args.self.now.rank c.args.self.now.degree =
    omega (arith, ap₂ count rank degree, c.count-i-end.ensures.number, c.loop-i-test.true) in
    product_past (g.F.Field.is_value c.args.f.now) (g.F.Field.num c.args.f.now) (g.F.Field.size c.args.f.now)
    c.args.self.now.rank c.args.self.now.degree c.args.other.now.degree c.loop-i.i
    (form_of (g.F.Field.num c.args.f.now) c.args.self.now) (form_of (g.F.Field.num c.args.f.now) c.args.other.now)
    c.loop-i.coefficients.items
    (form_at (g.F.Field.num c.args.f.now) c.args.self.now.rank c.args.self.now.degree c.loop-i.i
    c.args.self.now.coefficients c.index-c.result.now shape.rank below shape.sized (rw items at c.index-c.ensures)
    ∙ sym c.num.ensures ∙ c.if-num-eq0.true) c.loop-i.invariant

pub loop-i-preserved : goal.loop-i-preserved
loop-i-preserved g c =
    let rank = ap (λ a. a.rank) c.self.view_is in
    let degree = ap (λ a. a.degree) c.self.view_is in
    let items = ap (λ a. a.coefficients) c.self.view_is in
    let shape : HasShape c.args.self.now.rank c.args.self.now.degree c.args.self.now.coefficients =
    rw (rank, degree, items) at c.self.invariant in
    let below : c.loop-i.i < count c.args.self.now.rank c.args.self.now.degree =
    omega (arith, ap₂ count rank degree, c.count-i-end.ensures.number, c.loop-i-test.true) in
    let m_is = c.monomial_at-m.ensures.exponents ∙ ap₂ (λ r d. exponents 6 r d c.loop-i.i) rank degree in
    let other_degree = ap (λ a. a.degree) c.other.view_is in
    let other_items = ap (λ a. a.coefficients) c.other.view_is in
    let sized : length c.add_shifted.new.sums ≡ length c.loop-i.coefficients.items = search rules in
    let long : c.loop-i.coefficients.len ≡ length c.loop-i.coefficients.items = search rules in
    let added = shift_added_as (g.F.Field.num c.args.f.now) (g.F.Field.size c.args.f.now) c.args.self.now.rank
    c.in_ok-listed.listed.rank c.args.other.now.rank (c.args.self.now.degree + c.args.other.now.degree)
    (c.self.inside.degree + c.in_ok-listed.listed.degree) (g.F.Field.num c.args.f.now c.index-c.result.now)
    c.monomial_at-m.result c.args.other.now.coefficients c.deref.result.now c.loop-i.coefficients.items
    c.deref_mut.result.now c.add_shifted.new.sums (c.in_ok-listed.ensures.rank ∙ rank) (sym c.requires.rank)
    (ap₂ (λ x y. x + y) degree (c.in_ok-listed.ensures.degree ∙ other_degree)) (c.deref.ensures.value ∙ other_items)
    c.deref_mut.ensures.value c.add_shifted.ensures.added in
    rw (written_back c.loop-i.coefficients.len c.add_shifted.new.sums c.loop-i.coefficients.items long sized)
    (product_more (g.F.Field.is_value c.args.f.now) (g.F.Field.num c.args.f.now) (g.F.Field.size c.args.f.now)
    c.args.self.now.rank c.args.self.now.degree c.args.other.now.degree c.loop-i.i
    (form_of (g.F.Field.num c.args.f.now) c.args.self.now) (form_of (g.F.Field.num c.args.f.now) c.args.other.now)
    c.loop-i.coefficients.items c.add_shifted.new.sums c.monomial_at-m.result
    (g.F.Field.num c.args.f.now c.index-c.result.now) m_is
    (ap (form_of (g.F.Field.num c.args.f.now) c.args.self.now) m_is
    ∙ form_at (g.F.Field.num c.args.f.now) c.args.self.now.rank c.args.self.now.degree c.loop-i.i
    c.args.self.now.coefficients c.index-c.result.now shape.rank below shape.sized (rw items at c.index-c.ensures))
    c.loop-i.invariant sized c.add_shifted.ensures.values added)

pub returns-clause-product : goal.returns-clause-product
returns-clause-product g c =
    let rank = ap (λ a. a.rank) c.self.view_is in
    let degree = ap (λ a. a.degree) c.self.view_is in
    let all : c.loop-i.i ≡ count c.args.self.now.rank c.args.self.now.degree =
    omega (arith, ap₂ count rank degree, c.count-i-end.ensures.number, c.loop-i.auto.i-end, c.loop-i-test.false) in
    product_as (g.F.Field.num c.args.f.now) (g.F.Field.size c.args.f.now) c.args.self.now.rank c.self.inside.rank
    (c.args.self.now.degree + c.args.other.now.degree) c.loop-i.coefficients.items
    (product 6 c.args.self.now.rank c.args.self.now.degree (form_of (g.F.Field.num c.args.f.now) c.args.self.now)
    (form_of (g.F.Field.num c.args.f.now) c.args.other.now)) rank
    (product_all (g.F.Field.is_value c.args.f.now) (g.F.Field.num c.args.f.now) (g.F.Field.size c.args.f.now)
    c.args.self.now.rank c.args.self.now.degree c.args.other.now.degree c.loop-i.i
    (form_of (g.F.Field.num c.args.f.now) c.args.self.now) (form_of (g.F.Field.num c.args.f.now) c.args.other.now)
    c.loop-i.coefficients.items all c.loop-i.invariant)
