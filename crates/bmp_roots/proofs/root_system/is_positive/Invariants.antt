use Rattle.std.proofs.Common.{◌<◌, ◌≤ℤ◌, ℕ, pos}
use Rattle.bmp_roots.specs.Pairs.{coordinates}
use Rattle.bmp_roots.proofs.root_system.is_positive.Given as goal

abbrev pub invariant-loop-j : goal.invariant-loop-j
invariant-loop-j l = (k : ℕ) → k < l.j → pos 0 ≤ℤ coordinates l.v k
