use Rattle.std.proofs.Common.{rules, sym, ◌∙◌, below_more}
use Rattle.bmp_linear.proofs.RowCheckLemmas.{combination_all, combination_fails}
use Rattle.bmp_linear.proofs.combination.check_columns.Goals as goal

pub loop-j-preserved : goal.loop-j-preserved
loop-j-preserved g c =
    below_more _ _ c.loop-j.invariant
    (sym (c.from-left.ensures ∙ c.combine.ensures c.loop-j.j (search rules)) ∙ c.if-left-right.false
    ∙ c.from-right.ensures ∙ c.spread.ensures c.loop-j.j (search rules))

pub returns-then-left-right-clause-fault : goal.returns-then-left-right-clause-fault
returns-then-left-right-clause-fault g c =
    combination_fails (g.F.Field.size c.args.f.now) (g.A.Rows.matrix c.args.a.now) c.args.c.now c.args.target.now
    c.loop-j.j _ _ _ (search rules) c.from.ensures
    (c.from-left.ensures ∙ c.combine.ensures c.loop-j.j (search rules))
    (c.from-right.ensures ∙ c.spread.ensures c.loop-j.j (search rules)) c.if-left-right.true c.loop-j.invariant

pub returns-clause-ok : goal.returns-clause-ok
returns-clause-ok g c =
    combination_all (g.F.Field.size c.args.f.now) (g.A.Rows.matrix c.args.a.now) c.args.c.now c.args.target.now
    c.loop-j.j (search rules) c.loop-j.invariant
