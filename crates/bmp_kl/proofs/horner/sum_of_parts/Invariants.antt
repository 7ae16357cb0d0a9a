use Rattle.std.proofs.Common.{◌≡◌, ◌<◌, ℕ, ℤ, pos, length, get_or}
use Rattle.bmp_hecke.specs.Combinations.{value_in}
use Rattle.bmp_kl.specs.PartLists.{part_value}
use Rattle.bmp_kl.specs.HornerRows.{steps_sum}
use Rattle.bmp_kl.proofs.horner.sum_of_parts.Given as goal

abbrev pub invariant-loop-i : goal.invariant-loop-i
invariant-loop-i l = (k : ℕ) → k < l.i → get_or l.row k (pos 0) ≡ pos 0

abbrev pub invariant-loop-j : goal.invariant-loop-j
invariant-loop-j l =
    (length l.row ≡ 145) × ((e : ℤ) → value_in l.row 0 e ≡ steps_sum 36 (part_value l.parts l.x) l.j e)
