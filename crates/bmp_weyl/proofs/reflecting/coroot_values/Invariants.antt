use Rattle.std.proofs.Common.{◌≡◌, ◌≤◌}
use Rattle.bmp_roots.specs.Pairs.{coordinates}
use Rattle.bmp_weyl.proofs.ReflectingLemmas.{AreValues}
use Rattle.bmp_weyl.proofs.reflecting.coroot_values.Given as goal

abbrev pub invariant-loop-j : goal.invariant-loop-j
invariant-loop-j l = AreValues l.cartan (coordinates l.coroot) l.values l.j × (l.rank ≡ l.cartan.rank) × (l.rank ≤ 6)
