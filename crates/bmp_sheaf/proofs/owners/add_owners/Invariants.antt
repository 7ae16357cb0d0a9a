use Rattle.std.proofs.Common.{◌≡◌, ◌++◌, map, take}
use Rattle.std.specs.Arc.{arc_value}
use Rattle.bmp_sheaf.proofs.owners.add_owners.Given as goal

abbrev pub invariant-loop-value : goal.invariant-loop-value
invariant-loop-value g l =
    map arc_value l.list.items ≡ map arc_value l.fn.list.items ++ map arc_value (take l.value-index l.values)
