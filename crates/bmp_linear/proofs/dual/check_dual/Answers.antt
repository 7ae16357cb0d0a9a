use Rattle.std.proofs.Common.{rules, sym, ◌∙◌, below_more}
use Rattle.bmp_linear.proofs.RowCheckLemmas.{dual_all, dual_holds, dual_fails}
use Rattle.bmp_linear.proofs.dual.check_dual.Goals as goal

pub loop-i-preserved : goal.loop-i-preserved
loop-i-preserved g c =
    below_more _ _ c.loop-i.invariant (sym (c.num-left.ensures ∙ c.value_at.ensures.number) ∙ c.if-left-right.false
    ∙ c.one_at-right.ensures)

pub returns-then-left-right-clause-fault : goal.returns-then-left-right-clause-fault
returns-then-left-right-clause-fault g c =
    dual_fails (g.F.Field.size c.args.f.now) (g.A.Rows.matrix c.args.a.now) c.args.form.now c.args.own c.loop-i.i _ _ _
    _ (search rules) c.from.ensures c.from-then-left-right.ensures
    (c.num-left.ensures ∙ c.value_at.ensures.number) c.one_at-right.ensures c.if-left-right.true c.loop-i.invariant

pub returns-clause-ok : goal.returns-clause-ok
returns-clause-ok g c =
    dual_all (g.F.Field.size c.args.f.now) (g.A.Rows.matrix c.args.a.now) c.args.form.now c.args.own c.loop-i.i
    (search rules) c.loop-i.invariant

pub returns-clause-dual : goal.returns-clause-dual
returns-clause-dual g c =
    dual_holds (g.F.Field.size c.args.f.now) (g.A.Rows.matrix c.args.a.now) c.args.form.now c.args.own
    (dual_all (g.F.Field.size c.args.f.now) (g.A.Rows.matrix c.args.a.now) c.args.form.now c.args.own c.loop-i.i
    (search rules) c.loop-i.invariant)
