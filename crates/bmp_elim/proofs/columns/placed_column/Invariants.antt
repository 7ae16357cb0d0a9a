use Rattle.bmp_elim.specs.FreeVectors.{IsPlacedBelow}
use Rattle.bmp_elim.specs.KeptColumns.{IsEntryOf}
use Rattle.bmp_elim.proofs.columns.placed_column.Given as goal

-- the numbers at the places that were passed
abbrev pub invariant-loop-k : goal.invariant-loop-k
invariant-loop-k g l = IsPlacedBelow (g.F.Field.size l.f) l.places l.k (IsEntryOf (g.A.Rows.matrix l.a) l.column) l.v
