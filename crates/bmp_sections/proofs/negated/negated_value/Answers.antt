use Rattle.std.proofs.Common.{◌∙◌}
use Rattle.bmp_linear.proofs.EntrySums.{entry_sum_none}
use Rattle.bmp_sections.specs.RowParts.{negated}
use Rattle.bmp_sections.proofs.NegatedLemmas.{taken_value, negated_more, negated_whole}
use Rattle.bmp_sections.proofs.negated.negated_value.Goals as goal

pub loop-entry-init : goal.loop-entry-init
loop-entry-init g c =
    (c.zero-sum.ensures.value, c.zero-sum.ensures.number ∙ entry_sum_none _ (negated c.args.p c.args.entries.now) _)

pub loop-entry-preserved : goal.loop-entry-preserved
loop-entry-preserved g c = (
  c.add-sum.ensures.value,
  negated_more c.args.p c.args.entries.now c.requires.sparse c.requires.values (g.F.Field.size c.args.f.now)
      c.loop-entry.entry-index _ _ _ _ _ _ _
      c.loop-entry-test.true c.loop-entry.invariant.1 (c.from_num-factor.ensures.number ∙ c.from.ensures)
      (c.from_num-number.ensures.number ∙ c.from-in-loop-entry.ensures) c.mul.ensures.number
      c.add-sum.ensures.number,
)

pub returns-clause-number : goal.returns-clause-number
returns-clause-number g c =
    negated_whole c.args.p c.args.entries.now c.requires.sparse c.requires.values (g.F.Field.size c.args.f.now)
    c.loop-entry.entry-index _ _ c.loop-entry-test.false c.loop-entry.invariant.1

pub from_num-factor-requires : goal.from_num-factor-requires
from_num-factor-requires g c =
    rw c.from.ensures
    (taken_value c.args.p c.args.entries.now c.requires.sparse c.requires.values (g.F.Field.size c.args.f.now)
    c.loop-entry.entry-index _ c.loop-entry-test.true c.requires.negated)
