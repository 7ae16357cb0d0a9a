use Rattle.std.proofs.Common.{◌≡◌, length}
use Rattle.bmp_sheaf.specs.Coordinates.{stalk_start}
use Rattle.bmp_sheaf.specs.States.{sheaf_of}
use Rattle.bmp_cover.specs.CoverChecks.{source_place, ComparesDual}
use Rattle.bmp_cover.proofs.FaultLemmas.{PassBefore}
use Rattle.bmp_cover.proofs.duals.check_duals.Given as goal

-- the generators so far pass
abbrev pub invariant-loop-g : goal.invariant-loop-g
invariant-loop-g g l = record {
  passed : PassBefore l.g (ComparesDual l.sheaf.graph (sheaf_of l.sheaf) l.x l.d l.e);
  own : l.own ≡ stalk_start l.sheaf.graph.rank ((sheaf_of l.sheaf).degrees l.x) l.d l.g;
  next : l.next ≡ source_place (sheaf_of l.sheaf) l.x l.d l.g;
  room : length l.s.first ≡ length l.fn.s.first;
}
