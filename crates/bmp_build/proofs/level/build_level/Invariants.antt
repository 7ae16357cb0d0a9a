use Rattle.std.proofs.Common.{suc, length}
use Rattle.bmp_build.specs.Building.{IsBuiltDown}
use Rattle.bmp_build.specs.Tasks.{IsBuiltBy, IsLengthMade}
use Rattle.bmp_build.proofs.level.build_level.Given as goal

-- the vertices so far, and what was made at the others
abbrev pub invariant-vertices : goal.invariant-vertices
invariant-vertices g l = record {
  down : IsBuiltDown l.fn.sheaf.graph l.fn.sheaf.degree (suc l.k) l.k l.sheaf l.parts l.families;
  made : IsLengthMade (IsBuiltBy l.families l.counts) l.k l.sheaf l.made.items;
}

-- the stalks that are left
abbrev pub decreases-vertices : goal.decreases-vertices
decreases-vertices g l = length l.made.items
