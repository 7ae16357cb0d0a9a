use Rattle.bmp_sheaf.specs.States.{sheaf_of}
use Rattle.bmp_sections.proofs.RestrictLemmas.{IsRestrictedTo}
use Rattle.bmp_sections.proofs.restrict.restrict.Given as goal

-- the vertices so far
abbrev pub invariant-loop-y : goal.invariant-loop-y
invariant-loop-y g l =
    IsRestrictedTo l.sheaf.graph (sheaf_of l.sheaf) l.d l.from l.to l.t l.y l.start l.place l.restricted
