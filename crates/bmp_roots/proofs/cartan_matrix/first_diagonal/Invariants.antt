use Rattle.std.proofs.Common.{◌<◌, ℕ}
use Rattle.bmp_roots.specs.CartanRules.{matrix_of, HasTwo}
use Rattle.bmp_roots.proofs.cartan_matrix.first_diagonal.Given as goal

abbrev pub invariant-loop-i : goal.invariant-loop-i
invariant-loop-i l = (k : ℕ) → k < l.i → HasTwo (matrix_of l.rows l.rank) k
