use Rattle.std.proofs.Common.{◌≡◌, drop}
use Rattle.bmp_linear.specs.SparseVectors.{number_at}
use Rattle.bmp_linear.proofs.entries.number_in.Given as goal

-- the entries so far stand at other places
abbrev pub invariant-loop-entry : goal.invariant-loop-entry
invariant-loop-entry l = number_at l.entries l.place ≡ number_at (drop l.entry-index l.entries) l.place
