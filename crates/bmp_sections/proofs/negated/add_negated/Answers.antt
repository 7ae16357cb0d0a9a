use Rattle.std.proofs.Common.{◌∙◌, rules}
use Rattle.bmp_linear.proofs.RowSums.{entries_none}
use Rattle.bmp_sections.proofs.NegatedLemmas.{taken_value, negated_untouched, negated_added, negated_all}
use Rattle.bmp_sections.proofs.negated.add_negated.Goals as goal

pub from_num-sum-requires : goal.from_num-sum-requires
from_num-sum-requires g c =
    negated_untouched c.args.p c.args.entries.now c.requires.sparse c.requires.values (g.F.Field.size c.args.f.now)
    (g.F.Field.num c.args.f.now c.args.c) c.loop-entry.entry-index _ c.args.sums.now c.loop-entry.sums _
    c.loop-entry-test.true (c.requires.sums c.loop-entry.entry-index _ c.loop-entry-test.true) c.loop-entry.invariant
    c.from.ensures

pub loop-entry-init : goal.loop-entry-init
loop-entry-init g c = entries_none (g.F.Field.size c.args.f.now) (g.F.Field.num c.args.f.now c.args.c) c.args.sums.now

pub loop-entry-preserved : goal.loop-entry-preserved
loop-entry-preserved g c =
    negated_added c.args.p c.args.entries.now c.requires.sparse c.requires.values (g.F.Field.size c.args.f.now)
    (g.F.Field.num c.args.f.now c.args.c) c.loop-entry.entry-index _ c.args.sums.now c.loop-entry.sums _ _ _ _
    c.loop-entry-test.true (search rules) c.loop-entry.invariant
    (c.from_num-sum.ensures.number ∙ c.from.ensures) c.mul-term.ensures.number
    (c.from_num.ensures.number ∙ c.from-in-loop-entry.ensures) (c.num.ensures ∙ c.add.ensures.number)

pub returns : goal.returns
returns g c = negated_all c.args.p c.args.entries.now c.requires.sparse c.requires.values (g.F.Field.size c.args.f.now)
    (g.F.Field.num c.args.f.now c.args.c) c.loop-entry.entry-index c.args.sums.now c.loop-entry.sums
    c.loop-entry-test.false c.loop-entry.invariant

pub from_num-requires : goal.from_num-requires
from_num-requires g c =
    rw c.from-in-loop-entry.ensures
    (taken_value c.args.p c.args.entries.now c.requires.sparse c.requires.values (g.F.Field.size c.args.f.now)
    c.loop-entry.entry-index _ c.loop-entry-test.true c.requires.negated)
