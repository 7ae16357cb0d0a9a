use Rattle.std.proofs.Common.{◌∙◌}
use Rattle.bmp_linear.proofs.EntrySums.{entry_sum_none, entry_sum_more, entry_sum_whole}
use Rattle.bmp_linear.proofs.entries.value_of.Goals as goal

pub loop-entry-init : goal.loop-entry-init
loop-entry-init g c = (c.zero-sum.ensures.value, c.zero-sum.ensures.number ∙ entry_sum_none _ c.args.entries.now _)

pub loop-entry-preserved : goal.loop-entry-preserved
loop-entry-preserved g c = (
  c.add-sum.ensures.value,
  entry_sum_more (g.F.Field.size c.args.f.now) c.args.entries.now c.loop-entry.entry-index _ _ _ _ _ _ _
      c.loop-entry-test.true c.loop-entry.invariant.1 (c.from_num-factor.ensures.number ∙ c.from.ensures)
      (c.from_num-number.ensures.number ∙ c.from-in-loop-entry.ensures) c.mul.ensures.number
      c.add-sum.ensures.number,
)

pub returns-clause-number : goal.returns-clause-number
returns-clause-number g c =
    entry_sum_whole (g.F.Field.size c.args.f.now) c.args.entries.now c.loop-entry.entry-index _ _
    c.loop-entry-test.false c.loop-entry.invariant.1
