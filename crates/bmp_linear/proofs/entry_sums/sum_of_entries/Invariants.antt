use Rattle.std.proofs.Common.{◌+◌, length}
use Rattle.bmp_linear.proofs.EntrySumLemmas.{IsSummedSoFar}
use Rattle.bmp_linear.proofs.entry_sums.sum_of_entries.Given as goal

-- the entries so far, and what of both runs is left
abbrev pub invariant-loop-first_left : goal.invariant-loop-first_left
invariant-loop-first_left g l =
    IsSummedSoFar (g.F.Field.size l.f) (g.F.Field.num l.f l.c) l.first l.second l.first_left l.second_left l.sum.items

abbrev pub decreases-loop-first_left : goal.decreases-loop-first_left
decreases-loop-first_left g l = length l.first_left + length l.second_left
