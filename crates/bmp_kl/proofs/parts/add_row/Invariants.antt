use Rattle.bmp_kl.specs.BarRows.{row_value}
use Rattle.bmp_kl.specs.PartLists.{IsRowAdded}
use Rattle.bmp_kl.proofs.parts.add_row.Given as goal

abbrev pub invariant-loop-j : goal.invariant-loop-j
invariant-loop-j l =
    IsRowAdded l.start l.gap l.j l.fn.top (row_value l.rows.values.items l.x) l.fn.parts.items l.parts.items
