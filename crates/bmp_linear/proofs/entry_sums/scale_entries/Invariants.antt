use Rattle.std.proofs.Common.{◌≡◌, ◌++◌, map, take, drop}
use Rattle.bmp_linear.specs.EntryChanges.{times_entry}
use Rattle.bmp_linear.proofs.entry_sums.scale_entries.Given as goal

-- the entries so far are multiplied
abbrev pub invariant-loop-entry : goal.invariant-loop-entry
invariant-loop-entry g l =
    l.entries ≡ map (times_entry (g.F.Field.size l.f) (g.F.Field.num l.f l.c)) (take l.entry-index l.fn.entries) ++ drop
    l.entry-index l.fn.entries
