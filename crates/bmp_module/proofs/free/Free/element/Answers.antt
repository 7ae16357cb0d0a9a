use Rattle.std.proofs.Common.{◌∙◌, [], get_or, arith}
use Rattle.bmp_module.proofs.Appending.{appended_none, appended_more}
use Rattle.bmp_module.proofs.free.Free.element.Goals as goal

pub loop-number-init : goal.loop-number-init
loop-number-init g c =
    rw c.in_ok-values.ensures.items
    (appended_none (g.F.Field.is_value c.args.f.now) (g.F.Field.num c.args.f.now) []
    (λ i. get_or c.args.numbers.now i 0) (λ k d below. absurd (omega arith)))

pub loop-number-preserved : goal.loop-number-preserved
loop-number-preserved g c =
    rw c.in_ok-push.ensures.items
    (appended_more (g.F.Field.is_value c.args.f.now) (g.F.Field.num c.args.f.now) [] c.loop-number.values.items
    c.loop-number.number-index (λ i. get_or c.args.numbers.now i 0) c.from_num.result c.loop-number.invariant
    c.from_num.ensures.value
    (c.from_num.ensures.number ∙ c.from.ensures))
