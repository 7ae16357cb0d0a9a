use Rattle.std.proofs.Common.{◌≡◌, length}
use Rattle.bmp_par_tests.proofs.pieces.tallies.Given as goal

abbrev pub invariant-pieces : goal.invariant-pieces
invariant-pieces g l = length l.pieces.items ≡ l.runs
