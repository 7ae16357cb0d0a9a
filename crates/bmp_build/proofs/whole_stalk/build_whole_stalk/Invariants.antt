use Rattle.std.proofs.Common.{◌≡◌}
use Rattle.bmp_stalk.specs.Drafts.{under, IsDrafted}
use Rattle.bmp_build.proofs.WholeGrowth.{AreSpaces}
use Rattle.bmp_build.proofs.whole_stalk.build_whole_stalk.Given as goal

-- the degrees that are done
abbrev pub invariant-degrees : goal.invariant-degrees
invariant-degrees g l = record {
  drafted : IsDrafted l.sheaf l.x l.d l.draft;
  under : under l.sheaf ≡ l.fn.sheaf;
  built : AreSpaces l.fn.sheaf l.x l.d l.blocks l.draft;
}
