use Rattle.std.proofs.Common.{◌∙◌, get_or, rules}
use Rattle.bmp_field.proofs.RunLemmas.{added_more, field_sum}
use Rattle.bmp_field.proofs.field.Field.add_multiple.Goals as goal

pub loop-j-preserved : goal.loop-j-preserved
loop-j-preserved g c =
    let p = g.Self.Field.size c.args.self.now in
    let factor = g.Self.Field.num c.args.self.now c.args.c in
    added_more p factor c.args.from.now c.loop-j.j c.args.into.now c.loop-j.into c.num.result (search rules)
    c.loop-j.invariant
    (field_sum p factor (get_or c.loop-j.into c.loop-j.j 0) (get_or c.args.from.now c.loop-j.j 0) _ _ _ _ c.num.result
    (c.from_num-sum.ensures.number ∙ c.from.ensures) (c.from_num.ensures.number ∙ c.from-in-loop-j.ensures)
    c.mul-term.ensures.number c.add.ensures.number c.num.ensures)
