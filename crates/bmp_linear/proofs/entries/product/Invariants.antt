use Rattle.std.proofs.Common.{◌≡◌, ◌<◌, ◌≤◌, ◌%◌, length, get_or, take}
use Rattle.bmp_linear.specs.declared.vector.Entry.{Entry}
use Rattle.bmp_linear.specs.SparseVectors.{FitsBelow, number_at}
use Rattle.bmp_linear.proofs.EntrySums.{entry_sum}
use Rattle.bmp_linear.proofs.entries.product.Given as goal

-- the products so far, and what of the vector was passed
abbrev pub invariant-loop-entry : goal.invariant-loop-entry
invariant-loop-entry g l =
    (g.F.Field.is_value l.f l.sum)
    × (g.F.Field.num l.f l.sum ≡ entry_sum (take l.entry-index l.row) (number_at l.vector) % g.F.Field.size l.f)
    × (l.next ≤ length l.vector)
    × ((d : Entry) → l.entry-index < length l.row →
    FitsBelow (take l.next l.vector) (get_or l.row l.entry-index d).place)
