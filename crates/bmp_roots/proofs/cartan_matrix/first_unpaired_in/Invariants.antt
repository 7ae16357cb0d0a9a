use Rattle.std.proofs.Common.{◌<◌, ℕ}
use Rattle.bmp_roots.specs.CartanRules.{matrix_of, HasPairedZero}
use Rattle.bmp_roots.proofs.cartan_matrix.first_unpaired_in.Given as goal

abbrev pub invariant-loop-j : goal.invariant-loop-j
invariant-loop-j l = (k : ℕ) → k < l.j → HasPairedZero (matrix_of l.rows l.rank) l.i k
