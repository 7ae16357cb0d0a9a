use Rattle.std.proofs.Common.{◌≡◌, take}
use Rattle.bmp_interval.specs.Numbering.{elements_of}
use Rattle.bmp_interval.proofs.numbering.element_set.Given as goal

abbrev pub invariant-loop-vertex : goal.invariant-loop-vertex
invariant-loop-vertex l = l.set.keys ≡ elements_of (take l.vertex-index l.vertices)
