use Rattle.std.proofs.Common.{◌≡◌, ◌≤◌, ◌<◌, length}
use Rattle.bmp_roots.specs.Closing.{IsGrown, HasResultsBefore}
use Rattle.bmp_roots.specs.Pairs.{pairs_of}
use Rattle.bmp_roots.proofs.closing.grow_row.Given as goal

abbrev pub invariant-loop-k : goal.invariant-loop-k
invariant-loop-k l =
    IsGrown l.cartan (pairs_of l.list) × HasResultsBefore l.cartan (pairs_of l.list) l.i l.k × (l.i < length l.list) ×
    (length l.initial.list ≤ length l.list) × (l.rank ≡ l.cartan.rank)
