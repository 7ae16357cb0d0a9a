use Rattle.std.proofs.Common.{◌≡◌, ◌+◌, take}
use Rattle.bmp_graded.proofs.Totals.{total}
use Rattle.bmp_module.proofs.tuple.TupleGradedModule.coordinate.Given as goal

-- the place is counted from the k-th part on
abbrev pub invariant-loop-k : goal.invariant-loop-k
invariant-loop-k g l =
    l.fn.i ≡ total (λ m. (g.M.GradedModule.graded m).dim l.fn.e.degree) (take l.k l.fn.self.parts.items) + l.place
