use Rattle.std.proofs.Common.{◌≡◌, ℕ, ◌*◌, ◌%◌, ◌<◌, ◌≤◌, length, get_or}
use Rattle.bmp_elim.proofs.growing.multiply.Given as goal

-- the numbers that were passed are multiplied, and the others are as before
abbrev pub invariant-loop-number : goal.invariant-loop-number
invariant-loop-number g l = record {
  length_is : length l.numbers ≡ length l.fn.numbers;
  multiplied : (j : ℕ) → j < l.number-index → get_or l.numbers j 0 ≡ (g.F.Field.num l.f l.c * get_or l.fn.numbers j 0)
      % g.F.Field.size l.f;
  rest : (j : ℕ) → l.number-index ≤ j → get_or l.numbers j 0 ≡ get_or l.fn.numbers j 0;
}
