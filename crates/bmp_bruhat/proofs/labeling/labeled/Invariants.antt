use Rattle.bmp_roots.specs.RootSystems.{matrix_of}
use Rattle.bmp_interval.specs.IntervalViews.{system_of}
use Rattle.bmp_bruhat.specs.Labels.{form_in}
use Rattle.bmp_bruhat.specs.Building.{AreLabeled}
use Rattle.bmp_bruhat.proofs.labeling.labeled.Given as goal

-- the edges so far have their labels
abbrev pub invariant-loop-edge : goal.invariant-loop-edge
invariant-loop-edge l =
    AreLabeled (system_of l.interval) l.prime (form_in (matrix_of (system_of l.interval)) l.weight) l.edge-index l.found
    l.edges.items
