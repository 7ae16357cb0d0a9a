use Rattle.std.proofs.Common.{ℕ, ◌≡◌, ◌*◌, ◌%◌, ◌<◌, get_or}
use Rattle.bmp_module.proofs.Tupling.{ChangedBelow}
use Rattle.bmp_module.proofs.tuple.TupleGradedModule.scale_in.Given as goal

-- the parts below k are multiplied
abbrev pub invariant-loop-k : goal.invariant-loop-k
invariant-loop-k g l =
    (l.into.degree ≡ l.initial.into.degree)
    × ChangedBelow
    (λ i a b. (m : g.row.M.Denot) → g.M.GradedModule.is_element (get_or l.fn.self.parts.items i m) l.fn.f b ×
    (g.M.GradedModule.degree (get_or l.fn.self.parts.items i m) b ≡ l.initial.into.degree)
    × ((j : ℕ) → j < (g.M.GradedModule.graded (get_or l.fn.self.parts.items i m)).dim l.initial.into.degree →
    g.M.GradedModule.coordinate (get_or l.fn.self.parts.items i m) l.fn.f b j
    ≡ (g.F.Field.num l.fn.f l.fn.c * g.M.GradedModule.coordinate (get_or l.fn.self.parts.items i m) l.fn.f a j)
    % g.F.Field.size l.fn.f))
    l.initial.into.parts.items l.into.parts.items l.k
