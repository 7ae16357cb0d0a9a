use Rattle.std.proofs.Common.{◌≡◌, ◌+◌, drop}
use Rattle.bmp_graded.specs.Modules.{polynomials}
use Rattle.bmp_graded.proofs.Totals.{total}
use Rattle.bmp_graded.proofs.CopiesLemmas.{block_dim}
use Rattle.bmp_module.proofs.free.dimension.Given as goal

-- what is counted so far, and what the other generators give
abbrev pub invariant-loop-g : goal.invariant-loop-g
invariant-loop-g l =
    total (block_dim (polynomials l.rank) l.d) l.degrees ≡ l.dim + total (block_dim (polynomials l.rank) l.d)
    (drop l.g-index l.degrees)
