use Rattle.std.proofs.Common.{arith, ◌≡◌, ◌+◌, ◌-◌, ◌∙◌, ap, get_or, length, suc, sym}
use Rattle.bmp_poly.specs.Exponents.{count}
use Rattle.bmp_poly.specs.Coefficients.{coefficient}
use Rattle.bmp_graded.specs.NormalForms.{normal_by}
use Rattle.bmp_graded.proofs.CopiesLemmas.{reduced_block}
use Rattle.bmp_module.proofs.NormalBlocks.{zeros_appended}
use Rattle.bmp_module.proofs.TabledBlocks.{numbers_next, block_sized, combined_appended}
use Rattle.bmp_module.proofs.tabled.push_multiple.Goals as goal

pub returns-then-generator-degree : goal.returns-then-generator-degree
returns-then-generator-degree g c =
    zeros_appended (g.F.Field.is_value c.args.f.now) (g.F.Field.num c.args.f.now) (g.F.Field.size c.args.f.now)
    c.args.label.now.rank c.rank.result c.args.label.now.leading c.args.generator c.args.degree
    (c.args.degree + c.degree_of.result) c.from.result _ c.args.m.now
    (coefficient (g.F.Field.num c.args.f.now) c.args.block.now) c.args.numbers.now.items _
    c.rank.ensures (ap (λ z. c.args.degree + z) c.degree_of.ensures) c.if-generator-degree.true
    (c.from.ensures ∙ c.block_length-zeros.ensures
    ∙ reduced_block (c.rank.result - 1) c.args.label.now.leading c.args.generator
    (c.args.degree + c.degree_of.result)
    (normal_by c.args.label.now.prime (suc (c.args.label.now.rank - 1)) c.args.label.now.leading
    (λ k. get_or c.args.label.now.coords k 0))) c.in_ok-push_zeros.ensures

pub number_at-requires-clause-sized : goal.number_at-requires-clause-sized
number_at-requires-clause-sized g c =
    block_sized c.args.label.now.rank c.args.label.now.leading c.args.generator c.args.degree (length c.args.block.now)
    (normal_by c.args.label.now.prime (suc (c.args.label.now.rank - 1)) c.args.label.now.leading
    (λ k. get_or c.args.label.now.coords k 0)) c.if-generator-degree.false c.requires.sized
    ∙ sym c.in_ok-find_places.ensures.places.sized ∙ ap length (sym c.deref.ensures.value)

pub loop-i-preserved : goal.loop-i-preserved
loop-i-preserved g c =
    let number = rw (c.requires.by, c.deref.ensures.value) at c.number_at.ensures.number in
    rw c.in_ok-push.ensures.items
    (numbers_next (g.F.Field.is_value c.args.f.now) (g.F.Field.num c.args.f.now) (g.F.Field.size c.args.f.now)
    c.args.label.now.prime c.args.label.now.rank c.args.label.now.leading c.args.label.now.coords
    (c.args.degree + c.degree_of.result - c.args.generator) c.find_places.new.places.items c.args.block.now
    c.args.numbers.now.items
    c.loop-i.numbers.items c.loop-i.i c.number_at.result c.loop-i.invariant c.number_at.ensures.value number)

pub returns : goal.returns
returns g c =
    let last : c.loop-i.i ≡ c.count-i-end.result = omega (arith, c.loop-i.auto.i-end, c.loop-i-test.false) in
    let all : c.loop-i.i ≡ count (c.args.label.now.rank - 1) (c.args.degree + c.degree_of.result - c.args.generator) =
    last ∙ c.count-i-end.ensures.number
    ∙ ap (λ r. count (r - 1) (c.args.degree + c.degree_of.result - c.args.generator)) c.rank-2.ensures in
    combined_appended (g.F.Field.is_value c.args.f.now) (g.F.Field.num c.args.f.now) (g.F.Field.size c.args.f.now)
    c.args.label.now.prime c.args.label.now.rank c.args.label.now.leading c.args.label.now.coords c.args.generator
    c.args.degree (c.args.degree + c.degree_of.result) c.loop-i.i c.args.m.now c.find_places.new.places.items
    c.args.block.now c.args.numbers.now.items c.loop-i.numbers.items
    c.requires.prime (g.met.F.Field.laws.at_least_two c.args.f.now) (g.met.F.Field.laws.inverse c.args.f.now)
    c.args.label.now.leads c.if-generator-degree.false (ap (λ z. c.args.degree + z) c.degree_of.ensures)
    c.requires.monomial c.requires.sized c.in_ok-find_places.ensures.places all c.loop-i.invariant.appended
