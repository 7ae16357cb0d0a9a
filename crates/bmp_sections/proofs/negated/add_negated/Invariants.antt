use Rattle.std.proofs.Common.{take}
use Rattle.bmp_linear.specs.RowChanges.{AddsEntries}
use Rattle.bmp_sections.specs.RowParts.{negated}
use Rattle.bmp_sections.proofs.negated.add_negated.Given as goal

-- the entries so far are added
abbrev pub invariant-loop-entry : goal.invariant-loop-entry
invariant-loop-entry g l =
    AddsEntries (g.F.Field.size l.f) (g.F.Field.num l.f l.c) (take l.entry-index (negated l.p l.entries)) l.fn.sums
    l.sums
