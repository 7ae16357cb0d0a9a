use Rattle.std.proofs.Common.{◌+◌}
use Rattle.std.specs.List.{sum}
use Rattle.bmp_module.proofs.TabledBlocks.{ArePlacesBelow}
use Rattle.bmp_module.proofs.tabled.find_places.Given as goal

abbrev pub invariant-loop-j : goal.invariant-loop-j
invariant-loop-j l =
    ArePlacesBelow l.fn.label.rank l.fn.label.leading l.fn.degree (l.fn.degree + sum l.fn.m) l.fn.m l.j l.places.items
