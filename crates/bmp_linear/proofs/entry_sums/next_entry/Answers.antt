use Rattle.std.proofs.Common.{◌∙◌, rules}
use Rattle.bmp_field.proofs.RunLemmas.{field_sum}
use Rattle.bmp_linear.proofs.EntrySumLemmas.{next_is_first, next_is_second, next_is_both}
use Rattle.bmp_linear.proofs.entry_sums.next_entry.Goals as goal

pub returns-then-a-b : goal.returns-then-a-b
returns-then-a-b g c =
    next_is_first (g.F.Field.size c.args.f.now) (g.F.Field.num c.args.f.now c.args.c) c.args.first.now c.args.second.now
    _ _ (search rules) (search rules) c.requires.first c.requires.second c.requires.first_values c.if-a-b.true

pub returns-then-b-a : goal.returns-then-b-a
returns-then-b-a g c =
    next_is_second (g.F.Field.size c.args.f.now) (g.F.Field.num c.args.f.now c.args.c) c.args.first.now
    c.args.second.now _ _ c.times-then-b-a.result (search rules) (search rules) c.requires.first c.requires.second
    c.if-b-a.true c.times-then-b-a.ensures

pub returns-else-b-a : goal.returns-else-b-a
returns-else-b-a g c =
    next_is_both (g.F.Field.size c.args.f.now) (g.F.Field.num c.args.f.now c.args.c) c.args.first.now c.args.second.now
    _ _ _ c.num.result (search rules) (search rules) c.requires.first c.requires.second c.if-a-b.false
    c.if-b-a.false (search rules)
    (field_sum (g.F.Field.size c.args.f.now) (g.F.Field.num c.args.f.now c.args.c) _ _ _ _ _ _ c.num.result
    (c.from_num-else-b-a.ensures.number ∙ c.from-else-b-a.ensures) (c.from_num.ensures.number ∙ c.from.ensures)
    c.mul-term.ensures.number c.add-sum.ensures.number c.num.ensures)
