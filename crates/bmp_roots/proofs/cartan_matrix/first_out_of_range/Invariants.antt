use Rattle.std.proofs.Common.{◌<◌, ℕ}
use Rattle.bmp_roots.specs.CartanRules.{matrix_of, IsInRange}
use Rattle.bmp_roots.proofs.cartan_matrix.first_out_of_range.Given as goal

abbrev pub invariant-loop-i : goal.invariant-loop-i
invariant-loop-i l = (k j : ℕ) → k < l.i → j < l.rank → IsInRange (matrix_of l.rows l.rank) k j
