use Rattle.bmp_elim.specs.Traces.{AreUnits}
use Rattle.bmp_elim.proofs.unit_rows.unit_rows.Given as goal

-- the units so far
abbrev pub invariant-loop-place : goal.invariant-loop-place
invariant-loop-place g l = AreUnits l.place l.count (g.A.Rows.matrix l.rows)
