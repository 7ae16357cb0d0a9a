use Rattle.std.proofs.Common.{◌≡◌, ◌%◌, take}
use Rattle.bmp_linear.proofs.EntrySums.{entry_sum}
use Rattle.bmp_linear.proofs.rows.Rows.value_at.Given as goal

-- the products of the entries so far
abbrev pub invariant-loop-entry : goal.invariant-loop-entry
invariant-loop-entry g l =
    (g.F.Field.is_value l.f l.sum)
    × (g.F.Field.num l.f l.sum ≡ entry_sum (take l.entry-index l.entry-items)
    (λ j. (g.Self.Rows.matrix l.self).entry l.i j) % g.F.Field.size l.f)
