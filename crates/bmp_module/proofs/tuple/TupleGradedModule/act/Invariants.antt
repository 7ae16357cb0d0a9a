use Rattle.std.proofs.Common.{ℕ, ◌≡◌, ◌+◌, ◌%◌, ◌<◌, get_or, sum}
use Rattle.bmp_module.proofs.Tupling.{EachBelow}
use Rattle.bmp_module.proofs.tuple.TupleGradedModule.act.Given as goal

-- the multiples of the parts below k
abbrev pub invariant-loop-k : goal.invariant-loop-k
invariant-loop-k g l = EachBelow
    (λ i e. (m : g.row.M.Denot) (x : g.row.M-Elem.Denot) →
    g.M.GradedModule.is_element (get_or l.fn.self.parts.items i m) l.fn.f e ×
    (g.M.GradedModule.degree (get_or l.fn.self.parts.items i m) e ≡ l.fn.e.degree + sum l.fn.m)
    × ((j : ℕ) → j < (g.M.GradedModule.graded (get_or l.fn.self.parts.items i m)).dim (l.fn.e.degree + sum l.fn.m) →
    g.M.GradedModule.coordinate (get_or l.fn.self.parts.items i m) l.fn.f e j
    ≡ (g.M.GradedModule.graded (get_or l.fn.self.parts.items i m)).act l.fn.m l.fn.e.degree
    (l.fn.e.degree + sum l.fn.m)
    (g.M.GradedModule.coordinate (get_or l.fn.self.parts.items i m) l.fn.f (get_or l.fn.e.parts.items i x)) j
    % g.F.Field.size l.fn.f))
    l.parts.items l.k
