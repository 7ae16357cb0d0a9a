use Rattle.std.proofs.Common.{◌<◌, ℕ}
use Rattle.bmp_roots.specs.CartanRules.{matrix_of, IsInRange}
use Rattle.bmp_roots.proofs.cartan_matrix.first_out_of_range_in.Given as goal

abbrev pub invariant-loop-j : goal.invariant-loop-j
invariant-loop-j l = (k : ℕ) → k < l.j → IsInRange (matrix_of l.rows l.rank) l.i k
