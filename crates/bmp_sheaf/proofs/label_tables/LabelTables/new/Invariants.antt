use Rattle.bmp_sheaf.proofs.LabelTableLemmas.{IsTabled}
use Rattle.bmp_sheaf.proofs.label_tables.LabelTables.new.Given as goal

-- each edge so far has its table
abbrev pub invariant-loop-e : goal.invariant-loop-e
invariant-loop-e g l = IsTabled l.graph l.degree l.e l.tables.items l.numbers.items
