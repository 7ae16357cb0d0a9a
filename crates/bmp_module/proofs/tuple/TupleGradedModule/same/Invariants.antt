use Rattle.std.proofs.Common.{ℕ, ◌≡◌, ◌<◌, get_or}
use Rattle.bmp_module.proofs.tuple.TupleGradedModule.same.Given as goal

-- the parts below k agree
abbrev pub invariant-loop-k : goal.invariant-loop-k
invariant-loop-k g l = (i j : ℕ) (m : g.row.M.Denot) (x y : g.row.M-Elem.Denot) → i < l.k →
    j < (g.M.GradedModule.graded (get_or l.fn.self.parts.items i m)).dim l.fn.a.degree →
    g.M.GradedModule.coordinate (get_or l.fn.self.parts.items i m) l.fn.f (get_or l.fn.a.parts.items i x) j
    ≡ g.M.GradedModule.coordinate (get_or l.fn.self.parts.items i m) l.fn.f (get_or l.fn.b.parts.items i y) j
