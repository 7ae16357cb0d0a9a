use Rattle.std.proofs.Common.{◌∙◌, rules}
use Rattle.bmp_linear.proofs.RowSums.{entries_none, entries_more, entries_all, entry_untouched}
use Rattle.bmp_linear.proofs.entries.add_entries.Goals as goal

pub from_num-sum-requires : goal.from_num-sum-requires
from_num-sum-requires g c =
    entry_untouched (g.F.Field.size c.args.f.now) (g.F.Field.num c.args.f.now c.args.c) c.args.entries.now
    c.loop-entry.entry-index _ c.args.sums.now c.loop-entry.sums _
    c.requires.sparse c.loop-entry-test.true (c.requires.sums c.loop-entry.entry-index _ c.loop-entry-test.true)
    c.loop-entry.invariant c.from.ensures

pub loop-entry-init : goal.loop-entry-init
loop-entry-init g c = entries_none (g.F.Field.size c.args.f.now) (g.F.Field.num c.args.f.now c.args.c) c.args.sums.now

pub loop-entry-preserved : goal.loop-entry-preserved
loop-entry-preserved g c =
    entries_more (g.F.Field.size c.args.f.now) (g.F.Field.num c.args.f.now c.args.c) c.args.entries.now
    c.loop-entry.entry-index _ c.args.sums.now c.loop-entry.sums _ _ _ _
    c.requires.sparse c.loop-entry-test.true (search rules) c.loop-entry.invariant
    (c.from_num-sum.ensures.number ∙ c.from.ensures) c.mul-term.ensures.number
    (c.from_num.ensures.number ∙ c.from-in-loop-entry.ensures) (c.num.ensures ∙ c.add.ensures.number)

pub returns : goal.returns
returns g c = entries_all (g.F.Field.size c.args.f.now) (g.F.Field.num c.args.f.now c.args.c) c.args.entries.now
    c.loop-entry.entry-index c.args.sums.now c.loop-entry.sums c.loop-entry-test.false c.loop-entry.invariant
