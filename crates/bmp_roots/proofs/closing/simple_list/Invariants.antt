use Rattle.std.proofs.Common.{◌≡◌, length}
use Rattle.bmp_roots.specs.Closing.{simple_pairs}
use Rattle.bmp_roots.specs.Pairs.{pairs_of}
use Rattle.bmp_roots.proofs.closing.simple_list.Given as goal

abbrev pub invariant-loop-k : goal.invariant-loop-k
invariant-loop-k l = (pairs_of l.list ≡ simple_pairs l.k) × (length l.list ≡ l.k)
