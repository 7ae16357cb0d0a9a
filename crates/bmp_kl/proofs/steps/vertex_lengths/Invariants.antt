use Rattle.std.proofs.Common.{◌≡◌, map, take}
use Rattle.bmp_roots.specs.RootSystems.{positive_roots_of}
use Rattle.bmp_weyl.specs.Elements.{element_length}
use Rattle.bmp_interval.specs.IntervalViews.{system_of, vertices_of}
use Rattle.bmp_kl.proofs.steps.vertex_lengths.Given as goal

abbrev pub invariant-loop-x : goal.invariant-loop-x
invariant-loop-x l =
    l.lengths.items ≡ map (element_length (positive_roots_of (system_of l.interval)))
    (take l.x (vertices_of l.interval))
