use Rattle.std.proofs.Common.{◌%◌, rules, ap, ◌∙◌}
use Rattle.bmp_math.specs.Matrices.{image}
use Rattle.bmp_linear.specs.SparseVectors.{number_at}
use Rattle.bmp_linear.proofs.KernelLemmas.{zero_none, zero_more, zero_all, zero_fails}
use Rattle.bmp_linear.proofs.kernel.check_zero.Goals as goal

pub value_at_spread-requires-clause-spread : goal.value_at_spread-requires-clause-spread
value_at_spread-requires-clause-spread g c = rw c.at-vector.ensures c.requires.spread

pub returns-then-left-ne0-clause-fault : goal.returns-then-left-ne0-clause-fault
returns-then-left-ne0-clause-fault g c =
    let a = g.A.Rows.matrix c.args.a.now in
    zero_fails (g.F.Field.size c.args.f.now) a c.args.e.now c.args.index c.loop-i.i _ _ _ c.requires.index
    (search rules) c.from.ensures (search rules)
    (c.num-left.ensures ∙ c.value_at_spread.ensures.number
    ∙ ap (λ v. image a (number_at v) c.loop-i.i % g.F.Field.size c.args.f.now) c.at-vector.ensures)
    c.if-left-ne0.true c.loop-i.invariant

pub returns-clause-ok : goal.returns-clause-ok
returns-clause-ok g c =
    zero_all (g.F.Field.size c.args.f.now) (g.A.Rows.matrix c.args.a.now) c.args.e.now c.args.index c.loop-i.i
    (search rules) c.loop-i.invariant

pub loop-i-preserved : goal.loop-i-preserved
loop-i-preserved g c =
    let a = g.A.Rows.matrix c.args.a.now in
    zero_more (g.F.Field.size c.args.f.now) a c.args.e.now c.args.index c.loop-i.i _
    (c.num-left.ensures ∙ c.value_at_spread.ensures.number
    ∙ ap (λ v. image a (number_at v) c.loop-i.i % g.F.Field.size c.args.f.now) c.at-vector.ensures)
    (search rules) c.loop-i.invariant

pub loop-i-init : goal.loop-i-init
loop-i-init g c = zero_none (g.F.Field.size c.args.f.now) (g.A.Rows.matrix c.args.a.now) c.args.e.now c.args.index
