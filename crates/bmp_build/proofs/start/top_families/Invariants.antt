use Rattle.bmp_build.specs.Building.{IsTopFamily, HasEach}
use Rattle.bmp_build.proofs.start.top_families.Given as goal

-- the families so far
abbrev pub invariant-degrees : goal.invariant-degrees
invariant-degrees g l = HasEach (IsTopFamily l.sheaf) l.d l.families.items
