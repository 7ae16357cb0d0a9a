use Rattle.bmp_module.proofs.TabledBlocks.{IsNumberBelow}
use Rattle.bmp_module.proofs.tabled.number_at.Given as goal

abbrev pub invariant-loop-k : goal.invariant-loop-k
invariant-loop-k g l =
    IsNumberBelow (g.F.Field.is_value l.fn.f) (g.F.Field.num l.fn.f) (g.F.Field.size l.fn.f) l.fn.table.label.prime
    l.fn.table.label.rank l.fn.table.label.leading l.fn.table.label.coords l.fn.s l.fn.places l.fn.block l.fn.i l.k
    l.total
