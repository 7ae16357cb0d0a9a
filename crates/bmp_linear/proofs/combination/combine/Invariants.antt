use Rattle.std.proofs.Common.{◌≡◌, ℕ, ◌%◌, ◌<◌, get_or, take}
use Rattle.bmp_linear.proofs.EntrySums.{entry_sum}
use Rattle.bmp_linear.proofs.combination.combine.Given as goal

-- the rows of the entries so far are combined
abbrev pub invariant-loop-entry : goal.invariant-loop-entry
invariant-loop-entry g l =
    (j : ℕ) → j < (g.A.Rows.matrix l.a).cols → get_or l.sums j 0 ≡ entry_sum (take l.entry-index l.entry-items)
    (λ i. (g.A.Rows.matrix l.a).entry i j) % g.F.Field.size l.f
