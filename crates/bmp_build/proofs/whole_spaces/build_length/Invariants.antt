use Rattle.std.proofs.Common.{◌≡◌, ◌+◌, ◌<◌, ◌≤◌, length}
use Rattle.bmp_build.specs.WholeSpaces.{IsWholePart, AreWholeDown}
use Rattle.bmp_build.specs.Tasks.{IsLengthMade}
use Rattle.bmp_build.proofs.whole_spaces.build_length.Given as goal

-- the vertices so far, and what was made at the others
abbrev pub invariant-vertices : goal.invariant-vertices
invariant-vertices g l = record {
  down : AreWholeDown l.fn.sheaf.graph l.fn.sheaf.degree l.sheaf l.parts;
  made : IsLengthMade IsWholePart l.k l.sheaf l.made.items;
  more : length l.fn.parts + 1 ≤ length l.parts + length l.made.items;
}

-- the stalks that are left
abbrev pub decreases-vertices : goal.decreases-vertices
decreases-vertices g l = length l.made.items
