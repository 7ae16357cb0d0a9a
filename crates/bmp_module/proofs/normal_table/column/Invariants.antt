use Rattle.bmp_module.proofs.NormalColumns.{AreNumbers}
use Rattle.bmp_module.proofs.normal_table.column.Given as goal

-- the numbers of the values so far
abbrev pub invariant-loop-value : goal.invariant-loop-value
invariant-loop-value g l = AreNumbers (g.F.Field.num l.f) l.value-items l.value-index l.numbers.items
