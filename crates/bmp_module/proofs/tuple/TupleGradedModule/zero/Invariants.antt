use Rattle.std.proofs.Common.{ℕ, ◌≡◌, ◌<◌, get_or}
use Rattle.bmp_module.proofs.Tupling.{EachBelow}
use Rattle.bmp_module.proofs.tuple.TupleGradedModule.zero.Given as goal

abbrev pub invariant-loop-k : goal.invariant-loop-k
invariant-loop-k g l = EachBelow
    (λ i e. (m : g.row.M.Denot) → g.M.GradedModule.is_element (get_or l.fn.self.parts.items i m) l.fn.f e ×
    (g.M.GradedModule.degree (get_or l.fn.self.parts.items i m) e ≡ l.fn.d) ×
    ((j : ℕ) → j < (g.M.GradedModule.graded (get_or l.fn.self.parts.items i m)).dim l.fn.d →
    g.M.GradedModule.coordinate (get_or l.fn.self.parts.items i m) l.fn.f e j ≡ 0))
    l.parts.items l.k
