use Rattle.std.proofs.Common.{◌-◌, ◌≤◌, length, take}
use Rattle.bmp_linear.specs.SparseVectors.{FitsBelow}
use Rattle.bmp_linear.proofs.entries.seek.Given as goal

-- the entries before `at` have lower places
abbrev pub invariant-loop-at : goal.invariant-loop-at
invariant-loop-at l = (l.at ≤ length l.entries) × FitsBelow (take l.at l.entries) l.place

abbrev pub decreases-loop-at : goal.decreases-loop-at
decreases-loop-at l = length l.entries - l.at
