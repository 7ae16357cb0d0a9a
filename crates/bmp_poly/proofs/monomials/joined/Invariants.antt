use Rattle.std.proofs.Common.{◌≡◌, ℕ, ◌+◌, ◌<◌, ◌≤◌, length, get_or}
use Rattle.bmp_poly.proofs.monomials.joined.Given as goal

abbrev pub invariant-loop-k : goal.invariant-loop-k
invariant-loop-k l = record {
  long : length l.product ≡ 6;
  done : (j : ℕ) → j < l.k → get_or l.product j 0 ≡ get_or l.m j 0 + get_or l.n j 0;
  left : (j : ℕ) → l.k ≤ j → get_or l.product j 0 ≡ get_or l.m j 0;
}
