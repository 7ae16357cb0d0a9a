use Rattle.std.proofs.Common.{◌≡◌, length}
use Rattle.bmp_sheaf.specs.States.{sheaf_of}
use Rattle.bmp_cover.specs.CoverChecks.{ComparesCover}
use Rattle.bmp_cover.proofs.FaultLemmas.{PassBefore}
use Rattle.bmp_cover.proofs.covers.check_covers.Given as goal

-- the covers so far pass
abbrev pub invariant-loop-index : goal.invariant-loop-index
invariant-loop-index g l = record {
  passed : PassBefore l.index (ComparesCover l.sheaf.graph (sheaf_of l.sheaf) l.x l.d (g.T.Sections.list l.tuples) l.e);
  room : length l.s.first ≡ length l.fn.s.first;
}
