use Rattle.std.proofs.Common.{◌≡◌, ◌-◌, ◌≤◌, ◌∙◌, ap, arith}
use Rattle.std.specs.List.{sum}
use Rattle.bmp_poly.specs.Exponents.{count, exponents}
use Rattle.bmp_graded.proofs.GradedLemmas.{wider_monomial}
use Rattle.bmp_module.proofs.ColumnLemmas.{columns_none, multiple_pushed, multiples_whole, multiples_absent}
use Rattle.bmp_module.proofs.columns.push_multiples.Goals as goal

pub returns-then-a-d : goal.returns-then-a-d
returns-then-a-d g c =
    multiples_absent c.args.rank c.args.d (g.N.GradedModule.degree c.args.over.now c.args.image.now)
    ((g.N.GradedModule.graded c.args.over.now).dim c.args.d) _ c.args.columns.now.items
    (omega (arith, c.if-a-d.true, c.degree-a.ensures))

pub loop-t-init : goal.loop-t-init
loop-t-init g c = columns_none ((g.N.GradedModule.graded c.args.over.now).dim c.args.d) _ c.args.columns.now.items

pub act-requires-clause-monomial : goal.act-requires-clause-monomial
act-requires-clause-monomial g c =
    wider_monomial c.args.rank (g.N.GradedModule.rank c.args.over.now) _ c.monomial_at-m.result c.requires.rank
    (rw c.monomial_at-m.ensures.monomial.size c.monomial_at-m.ensures.monomial)

pub loop-t-preserved : goal.loop-t-preserved
loop-t-preserved g c =
    let within : g.N.GradedModule.degree c.args.over.now c.args.image.now ≤ c.args.d =
    omega (arith, c.if-a-d.false, c.degree-a.ensures) in
    let size : sum c.monomial_at-m.result ≡ c.args.d - g.N.GradedModule.degree c.args.over.now c.args.image.now =
    c.monomial_at-m.ensures.monomial.size ∙ ap (λ z. c.args.d - z) c.degree-a.ensures in
    multiple_pushed (g.F.Field.size c.args.f.now) c.args.rank c.args.d
    (g.N.GradedModule.degree c.args.over.now c.args.image.now) c.loop-t.t
    (g.N.GradedModule.degree c.args.over.now c.in_ok-multiple.multiple) (g.N.GradedModule.graded c.args.over.now)
    c.monomial_at-m.result (g.N.GradedModule.coordinate c.args.over.now c.args.f.now c.args.image.now)
    (g.N.GradedModule.coordinate c.args.over.now c.args.f.now c.in_ok-multiple.multiple) c.args.columns.now.items
    c.loop-t.columns.items c.push_coordinates.new.columns.items
    within (c.monomial_at-m.ensures.exponents
    ∙ ap (λ z. exponents 6 c.args.rank (c.args.d - z) c.loop-t.t) c.degree-a.ensures) size
    c.in_ok-multiple.ensures.degree c.in_ok-multiple.ensures.multiple c.in_ok-push_coordinates.ensures
    c.loop-t.invariant

pub returns : goal.returns
returns g c =
    let within : g.N.GradedModule.degree c.args.over.now c.args.image.now ≤ c.args.d =
    omega (arith, c.if-a-d.false, c.degree-a.ensures) in
    let last : c.loop-t.t ≡ c.count-t-end.result = omega (arith, c.loop-t.auto.t-end, c.loop-t-test.false) in
    multiples_whole c.args.rank c.args.d (g.N.GradedModule.degree c.args.over.now c.args.image.now) c.loop-t.t
    ((g.N.GradedModule.graded c.args.over.now).dim c.args.d) _ c.args.columns.now.items c.loop-t.columns.items
    within
    (last ∙ c.count-t-end.ensures.number ∙ ap (λ z. count c.args.rank (c.args.d - z)) c.degree-a.ensures)
    c.loop-t.invariant
