use Rattle.bmp_linear.proofs.StoredLemmas.{HasFirstRows}
use Rattle.bmp_linear.proofs.copies.stored.Given as goal

-- the rows that were passed
abbrev pub invariant-loop-i : goal.invariant-loop-i
invariant-loop-i g l = HasFirstRows l.i (g.V.Rows.matrix l.view) (g.A.Rows.matrix l.rows)
