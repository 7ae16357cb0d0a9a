use Rattle.std.proofs.Common.{◌≤◌, length}
use Rattle.std.specs.Int.RustNames.{unsigned_abs}
use Rattle.bmp_interval.specs.IntervalViews.{system_of, letters_of, vertices_of}
use Rattle.bmp_kl.specs.Fillings.{IsFilling}
use Rattle.bmp_kl.proofs.fill.kl_table.Given as goal

abbrev pub invariant-loop-x : goal.invariant-loop-x
invariant-loop-x l =
    IsFilling (system_of l.interval) (letters_of l.interval) (vertices_of l.interval) (unsigned_abs l.fn.limit) l.x
    l.filling
    × (l.x ≤ length (vertices_of l.interval))

abbrev pub decreases-loop-x : goal.decreases-loop-x
decreases-loop-x l = l.x
