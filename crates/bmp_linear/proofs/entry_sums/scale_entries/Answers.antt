use Rattle.std.proofs.Common.{◌∙◌, set, ap, rules}
use Rattle.std.proofs.lemmas.List.{get_or_default}
use Rattle.std.proofs.lemmas.List.Edits.{map_over_more}
use Rattle.bmp_linear.specs.EntryChanges.{times_entry}
use Rattle.bmp_linear.proofs.entry_sums.scale_entries.Goals as goal

pub loop-entry-preserved : goal.loop-entry-preserved
loop-entry-preserved g c =
    ap (λ e. set c.loop-entry.entries c.loop-entry.entry-index e) c.times.ensures
    ∙ map_over_more (times_entry (g.F.Field.size c.args.f.now) (g.F.Field.num c.args.f.now c.args.c)) c.args.entries.now
    c.loop-entry.entries c.loop-entry.entry-index _ c.loop-entry-test.true c.loop-entry.invariant
    (get_or_default c.loop-entry.entries c.loop-entry.entry-index _ _ (search rules))
