use Rattle.std.proofs.Common.{◌<◌, ℕ}
use Rattle.bmp_roots.specs.CartanRules.{matrix_of, HasPairedZero}
use Rattle.bmp_roots.proofs.cartan_matrix.first_unpaired.Given as goal

abbrev pub invariant-loop-i : goal.invariant-loop-i
invariant-loop-i l = (k j : ℕ) → k < l.i → j < l.rank → HasPairedZero (matrix_of l.rows l.rank) k j
