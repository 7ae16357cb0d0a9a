use Rattle.std.proofs.Common.{suc, ◌+◌}
use Rattle.bmp_build.proofs.Extending.{IsTurned}
use Rattle.bmp_build.specs.Building.{HoldsFamily}
use Rattle.bmp_build.proofs.level.extend_families.Given as goal

-- the degrees so far
abbrev pub invariant-degrees : goal.invariant-degrees
invariant-degrees g l =
    IsTurned (HoldsFamily l.sheaf.graph l.sheaf.degree (suc l.k) l.parts l.sheaf)
    (HoldsFamily l.sheaf.graph l.sheaf.degree l.k l.parts l.sheaf) (l.sheaf.degree + 1) l.degree l.families.items
