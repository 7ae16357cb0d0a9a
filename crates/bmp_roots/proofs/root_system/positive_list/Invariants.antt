use Rattle.std.proofs.Common.{◌≡◌, ◌≤◌, length, take}
use Rattle.bmp_roots.specs.Pairs.{positives_of}
use Rattle.bmp_roots.proofs.root_system.positive_list.Given as goal

abbrev pub invariant-loop-pair : goal.invariant-loop-pair
invariant-loop-pair l = (l.positive ≡ positives_of l.rank (take l.pair-index l.items)) ×
    (length l.positive ≤ l.pair-index)
