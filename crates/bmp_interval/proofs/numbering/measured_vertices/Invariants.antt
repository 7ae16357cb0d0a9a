use Rattle.std.proofs.Common.{◌≡◌, map, take}
use Rattle.bmp_roots.specs.RootSystems.{positive_roots_of}
use Rattle.bmp_interval.specs.Numbering.{measured}
use Rattle.bmp_interval.proofs.numbering.measured_vertices.Given as goal

abbrev pub invariant-loop-elem : goal.invariant-loop-elem
invariant-loop-elem l = l.vertices.items ≡ map (measured (positive_roots_of l.roots)) (take l.elem-index l.elems)
