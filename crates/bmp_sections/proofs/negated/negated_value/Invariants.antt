use Rattle.std.proofs.Common.{◌≡◌, ◌%◌, take, get_or}
use Rattle.bmp_linear.proofs.EntrySums.{entry_sum}
use Rattle.bmp_sections.specs.RowParts.{negated}
use Rattle.bmp_sections.proofs.negated.negated_value.Given as goal

-- the products of the entries so far
abbrev pub invariant-loop-entry : goal.invariant-loop-entry
invariant-loop-entry g l =
    (g.F.Field.is_value l.f l.sum)
    × (g.F.Field.num l.f l.sum ≡ entry_sum (take l.entry-index (negated l.p l.entries)) (λ j. get_or l.numbers j 0)
    % g.F.Field.size l.f)
