use Rattle.std.proofs.Common.{◌≤◌, ◌-◌, length}
use Rattle.bmp_roots.specs.Closing.{IsGrown, HasResultsBefore}
use Rattle.bmp_roots.specs.Pairs.{pairs_of}
use Rattle.bmp_roots.proofs.closing.close_list.Given as goal

abbrev pub invariant-loop-i : goal.invariant-loop-i
invariant-loop-i l = IsGrown l.cartan (pairs_of l.list) × HasResultsBefore l.cartan (pairs_of l.list) l.i 0 ×
    (l.i ≤ length l.list)

abbrev pub decreases-loop-i : goal.decreases-loop-i
decreases-loop-i l = 72 - l.i
