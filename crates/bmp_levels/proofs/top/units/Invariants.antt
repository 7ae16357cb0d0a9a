use Rattle.bmp_levels.specs.Runs.{AreUnits}
use Rattle.bmp_levels.proofs.top.units.Given as goal

-- the vectors so far
abbrev pub invariant-loop-place : goal.invariant-loop-place
invariant-loop-place l = AreUnits l.place l.units
