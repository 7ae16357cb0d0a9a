use Rattle.std.proofs.Common.{◌∙◌}
use Rattle.bmp_linear.proofs.EntrySums.{entry_sum_none, entry_sum_more, entry_sum_all}
use Rattle.bmp_linear.proofs.rows.Rows.value_at.Goals as goal

pub loop-entry-init : goal.loop-entry-init
loop-entry-init g c =
    (c.zero-sum.ensures.value, c.zero-sum.ensures.number ∙ entry_sum_none _ c.entries-entry-items.result.now _)

pub loop-entry-preserved : goal.loop-entry-preserved
loop-entry-preserved g c = (
  c.add-sum.ensures.value,
  entry_sum_more (g.F.Field.size c.args.f.now) c.entries-entry-items.result.now c.loop-entry.entry-index _
      (λ j. (g.Self.Rows.matrix c.args.self.now).entry c.args.i j) _ _ _ _ _
      c.loop-entry-test.true c.loop-entry.invariant.1 (c.from_num-factor.ensures.number ∙ c.from.ensures)
      c.at.ensures.number c.mul.ensures.number c.add-sum.ensures.number,
)

pub returns-clause-number : goal.returns-clause-number
returns-clause-number g c =
    let a = g.Self.Rows.matrix c.args.self.now in
    let items = c.entries-entry-items.ensures.items in
    rw (← items) (entry_sum_all (g.F.Field.size c.args.f.now) c.entries-entry-items.result.now c.loop-entry.entry-index
    a.cols (a.entry c.args.i) _ c.loop-entry-test.false c.entries-entry-items.ensures.sparse.rising
    (rw items c.requires.fits) c.loop-entry.invariant.1)
