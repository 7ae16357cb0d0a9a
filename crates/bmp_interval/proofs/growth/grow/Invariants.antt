use Rattle.std.proofs.Common.{◌≡◌, ◌≤◌, length}
use Rattle.bmp_interval.specs.Limits.{max_vertices}
use Rattle.bmp_interval.specs.Growth.{IsGrowing}
use Rattle.bmp_interval.proofs.growth.grow.Given as goal

abbrev pub invariant-loop-i : goal.invariant-loop-i
invariant-loop-i l =
    IsGrowing l.simple l.i l.fn.set.keys l.set.keys × (l.count ≡ length l.fn.set.keys) ×
    (length l.set.keys ≤ max_vertices)
