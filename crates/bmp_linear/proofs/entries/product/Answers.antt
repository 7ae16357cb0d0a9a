use Rattle.std.proofs.Common.{◌∙◌, arith}
use Rattle.bmp_linear.proofs.EntrySums.{entry_sum_none, entry_sum_more, entry_sum_whole}
use Rattle.bmp_linear.proofs.SparseLemmas.{number_at-below}
use Rattle.bmp_linear.proofs.MergeLemmas.{passed_next}
use Rattle.bmp_linear.proofs.entries.product.Goals as goal

pub from_num-number-requires : goal.from_num-number-requires
from_num-number-requires g c =
    let two = g.met.F.Field.laws.at_least_two c.args.f.now in
    rw (c.from-in-loop-entry.ensures, c.number_from.ensures)
    (number_at-below c.args.vector.now (g.F.Field.size c.args.f.now) _ (omega (arith, two)) c.requires.values)

pub loop-entry-init : goal.loop-entry-init
loop-entry-init g c = (
  c.zero-sum.ensures.value,
  c.zero-sum.ensures.number ∙ entry_sum_none _ c.args.row.now _,
  omega arith,
  λ d l k e m. absurd (omega arith),
)

pub loop-entry-preserved : goal.loop-entry-preserved
loop-entry-preserved g c = (
  c.add-sum.ensures.value,
  entry_sum_more (g.F.Field.size c.args.f.now) c.args.row.now c.loop-entry.entry-index _ _ _ _ _ _ _
      c.loop-entry-test.true c.loop-entry.invariant.1 (c.from_num-factor.ensures.number ∙ c.from.ensures)
      (c.from_num-number.ensures.number ∙ c.from-in-loop-entry.ensures ∙ c.number_from.ensures) c.mul.ensures.number
      c.add-sum.ensures.number,
  c.seek-next.ensures.within,
  passed_next c.args.row.now c.args.vector.now c.loop-entry.entry-index c.seek-next.result _ c.requires.row_rising
      c.loop-entry-test.true c.seek-next.ensures.passed,
)

pub returns-clause-number : goal.returns-clause-number
returns-clause-number g c =
    entry_sum_whole (g.F.Field.size c.args.f.now) c.args.row.now c.loop-entry.entry-index _ _ c.loop-entry-test.false
    c.loop-entry.invariant.1
