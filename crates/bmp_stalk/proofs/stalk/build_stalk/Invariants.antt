use Rattle.std.proofs.Common.{◌≡◌}
use Rattle.bmp_stalk.specs.BuiltParts.{list_at}
use Rattle.bmp_stalk.specs.Drafts.{under, IsDrafted}
use Rattle.bmp_stalk.proofs.StalkLemmas.{AreBuilt}
use Rattle.bmp_stalk.proofs.stalk.build_stalk.Given as goal

-- the degrees that are done
abbrev pub invariant-loop-d : goal.invariant-loop-d
invariant-loop-d g l = record {
  drafted : IsDrafted l.sheaf l.x l.d l.draft;
  under : under l.sheaf ≡ l.fn.sheaf;
  built : AreBuilt l.fn.sheaf l.x (list_at l.families l.counts) l.d l.blocks l.draft;
}
