use Rattle.std.proofs.Common.{◌≡◌, ◌++◌, drop}
use Rattle.bmp_report.specs.FaultLines.{coordinates_text}
use Rattle.bmp_report.proofs.faults.push_coordinates.Given as goal

abbrev pub invariant-coordinates : goal.invariant-coordinates
invariant-coordinates l =
    l.out.items ++ coordinates_text (drop l.coordinate-index l.coordinates) ≡ l.initial.out.items ++ coordinates_text
    l.coordinates
