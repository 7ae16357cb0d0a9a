use Rattle.std.proofs.Common.{ℕ, ◌<◌}
use Rattle.bmp_sheaf.specs.States.{IsRoom}
use Rattle.bmp_check.proofs.scratch.coordinate_room.Given as goal

-- the coordinates of the degrees so far
abbrev pub invariant-degrees : goal.invariant-degrees
invariant-degrees l = (e : ℕ) → e < l.d → IsRoom l.sheaf e l.most
