use Rattle.std.proofs.Common.{◌≡◌, ◌+◌, drop}
use Rattle.bmp_graded.proofs.Totals.{total}
use Rattle.bmp_module.proofs.tuple.TupleGradedModule.dim.Given as goal

-- what is counted so far, and what the other parts give
abbrev pub invariant-loop-k : goal.invariant-loop-k
invariant-loop-k g l = total (λ m. (g.M.GradedModule.graded m).dim l.fn.d) l.fn.self.parts.items
    ≡ l.dim + total (λ m. (g.M.GradedModule.graded m).dim l.fn.d) (drop l.k l.fn.self.parts.items)
