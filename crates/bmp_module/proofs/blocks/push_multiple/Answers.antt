use Rattle.std.proofs.Common.{arith, ◌≡◌, ◌+◌, ◌-◌, ◌≤◌, ◌∙◌, sym, ap, length, sum}
use Rattle.bmp_poly.specs.Exponents.{count}
use Rattle.bmp_poly.specs.Coefficients.{coefficient}
use Rattle.bmp_graded.specs.Modules.{polynomials, moved}
use Rattle.bmp_graded.proofs.CopiesLemmas.{moved_dim, moved_none, polynomials_dim}
use Rattle.bmp_module.proofs.Appending.{appended_none, appended_more, appended_as}
use Rattle.bmp_module.proofs.Multiplying.{moved_act, block_sized}
use Rattle.bmp_module.proofs.blocks.push_multiple.Goals as goal

pub returns-then-generator-raised : goal.returns-then-generator-raised
returns-then-generator-raised g c =
    let M = moved c.args.generator (polynomials c.args.rank) in
    let none : 0 ≡ M.dim (c.args.degree + sum c.args.m.now) =
    sym (moved_none (polynomials c.args.rank) c.args.generator (c.args.degree + sum c.args.m.now)
    (omega (arith, c.if-generator-raised.true, c.degree_of.ensures))) in
    appended_as (g.F.Field.is_value c.args.f.now) (g.F.Field.num c.args.f.now) c.args.numbers.now.items
    c.args.numbers.now.items 0 (M.dim (c.args.degree + sum c.args.m.now)) _ _ none (λ j l. absurd (omega arith))
    (appended_none (g.F.Field.is_value c.args.f.now) (g.F.Field.num c.args.f.now) c.args.numbers.now.items
    (λ j. 0) c.requires.numbers)

pub multiple_at-requires-clause-sized : goal.multiple_at-requires-clause-sized
multiple_at-requires-clause-sized g c =
    λ d e. block_sized c.args.rank c.args.generator c.args.degree (sum c.args.m.now) d (length c.args.block.now)
    (omega (arith, c.if-generator-raised.false, c.degree_of.ensures)) c.requires.sized
    (omega (arith, e, c.degree_of.ensures))

pub loop-i-init : goal.loop-i-init
loop-i-init g c =
    appended_none (g.F.Field.is_value c.args.f.now) (g.F.Field.num c.args.f.now) c.args.numbers.now.items _
    c.requires.numbers

pub loop-i-preserved : goal.loop-i-preserved
loop-i-preserved g c =
    rw c.in_ok-push.ensures.items
    (appended_more (g.F.Field.is_value c.args.f.now) (g.F.Field.num c.args.f.now) c.args.numbers.now.items
    c.loop-i.numbers.items c.loop-i.i _ c.multiple_at.result c.loop-i.invariant c.multiple_at.ensures.value
    c.multiple_at.ensures.number)

pub returns : goal.returns
returns g c =
    let M = moved c.args.generator (polynomials c.args.rank) in
    let raised : c.degree_of.result ≡ sum c.args.m.now = c.degree_of.ensures in
    let from : c.args.generator ≤ c.args.degree + sum c.args.m.now = omega (arith, c.if-generator-raised.false) in
    let last : c.loop-i.i ≡ c.count-i-end.result = omega (arith, c.loop-i.auto.i-end, c.loop-i-test.false) in
    let all : c.loop-i.i ≡ count c.args.rank ((c.args.degree + sum c.args.m.now) - c.args.generator) =
    last ∙ c.count-i-end.ensures.number
    ∙ ap (λ z. count c.args.rank ((c.args.degree + z) - c.args.generator)) raised in
    appended_as (g.F.Field.is_value c.args.f.now) (g.F.Field.num c.args.f.now) c.args.numbers.now.items
    c.loop-i.numbers.items c.loop-i.i (M.dim (c.args.degree + sum c.args.m.now)) _ _
    (all ∙ sym (moved_dim (polynomials c.args.rank) c.args.generator (c.args.degree + sum c.args.m.now) from
    ∙ polynomials_dim c.args.rank ((c.args.degree + sum c.args.m.now) - c.args.generator)))
    (λ j l. moved_act c.args.rank c.args.generator c.args.degree j c.args.m.now
    (coefficient (g.F.Field.num c.args.f.now) c.args.block.now) c.requires.rank c.requires.monomial from
    (omega (arith, all)))
    (rw raised at c.loop-i.invariant)
