use Rattle.std.proofs.Common.{◌≡◌, ◌+◌, take}
use Rattle.std.specs.List.{sum}
use Rattle.bmp_poly.proofs.reduction.size_from.Given as goal

abbrev pub invariant-loop-j : goal.invariant-loop-j
invariant-loop-j l = sum (take l.j l.m) + l.rest ≡ l.degree
