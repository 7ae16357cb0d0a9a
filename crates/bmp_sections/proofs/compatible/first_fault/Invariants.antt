use Rattle.std.proofs.Common.{◌≡◌, ℕ, ◌<◌}
use Rattle.bmp_linear.specs.SparseVectors.{number_at}
use Rattle.bmp_sheaf.specs.States.{sheaf_of}
use Rattle.bmp_sections.specs.EdgeFaults.{equation_of}
use Rattle.bmp_sections.proofs.compatible.first_fault.Given as goal

-- the equations so far hold
abbrev pub invariant-loop-k : goal.invariant-loop-k
invariant-loop-k g l = (k : ℕ) → k < l.k → equation_of l.sheaf.graph (sheaf_of l.sheaf) l.x l.d (number_at l.t) k ≡ 0
