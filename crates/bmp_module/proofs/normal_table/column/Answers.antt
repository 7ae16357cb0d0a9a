use Rattle.std.proofs.Common.{arith, ◌<◌, ◌∙◌, ap, get_or}
use Rattle.bmp_math.specs.Vectors.{unit}
use Rattle.bmp_poly.specs.Exponents.{count}
use Rattle.bmp_module.proofs.NormalColumns.{numbers_none, numbers_more, numbers_column}
use Rattle.bmp_module.proofs.normal_table.column.Goals as goal

pub loop-value-init : goal.loop-value-init
loop-value-init g c =
    rw c.in_ok-numbers.ensures.items (numbers_none (g.F.Field.num c.args.f.now) c.deref-value-items.result.now)

pub loop-value-preserved : goal.loop-value-preserved
loop-value-preserved g c =
    rw c.in_ok-push.ensures.items
    (numbers_more (g.F.Field.num c.args.f.now) c.deref-value-items.result.now c.loop-value.value-index
    c.loop-value.numbers.items c.value-item.result c.num.result c.loop-value.invariant c.loop-value-test.true
    c.value-item.is c.num.ensures)

pub returns : goal.returns
returns g c =
    let place_ok : c.args.t < count c.args.label.now.rank c.args.degree = c.requires.place in
    numbers_column (g.F.Field.is_value c.args.f.now) (g.F.Field.num c.args.f.now) c.args.label.now.prime
    (g.F.Field.size c.args.f.now) c.args.label.now.rank c.args.label.now.leading c.args.degree c.args.t
    (λ k. get_or c.args.label.now.coords k 0)
    c.in_ok-coefficients.coefficients.items c.deref_mut.result.now c.new-normal.result.items
    c.push_normal.new.numbers.items c.deref-value-items.result.now c.loop-value.value-index
    c.loop-value.numbers.items
    c.requires.prime c.args.label.now.leads.rank place_ok (λ i. c.in_ok-coefficients.ensures.unit i
    ∙ ap (λ z. unit z i) c.from.ensures) c.deref_mut.ensures.value c.new-normal.ensures.items
    c.deref-value-items.ensures.value c.in_ok-push_normal.ensures c.loop-value-test.false (omega arith)
    c.loop-value.invariant
