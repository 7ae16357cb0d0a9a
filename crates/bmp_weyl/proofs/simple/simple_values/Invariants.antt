use Rattle.std.proofs.Common.{◌≡◌, ◌≤◌}
use Rattle.bmp_math.specs.IntegerSums.{integer_unit}
use Rattle.bmp_weyl.proofs.ReflectingLemmas.{AreValues}
use Rattle.bmp_weyl.proofs.simple.simple_values.Given as goal

abbrev pub invariant-loop-j : goal.invariant-loop-j
invariant-loop-j l = AreValues l.cartan (integer_unit l.k) l.values l.j × (l.rank ≡ l.cartan.rank) × (l.rank ≤ 6)
