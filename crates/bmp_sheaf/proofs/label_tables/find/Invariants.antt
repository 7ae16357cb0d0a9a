use Rattle.std.proofs.Common.{ℕ, ◌<◌, get_or}
use Rattle.bmp_module.specs.declared.normal_table.NormalTable.{NormalTable}
use Rattle.bmp_sheaf.specs.LabelTables.{IsBy}
use Rattle.bmp_sheaf.proofs.label_tables.find.Given as goal

-- the tables so far are by other labels
abbrev pub invariant-loop-number : goal.invariant-loop-number
invariant-loop-number l = (k : ℕ) (t : NormalTable) → k < l.number → IsBy (get_or l.tables k t) l.label → ⊥
