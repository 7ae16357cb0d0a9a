use Rattle.std.proofs.Common.{◌≡◌, ℕ, ◌+◌, ◌*◌, ◌<◌, ◌≤◌, length, get_or}
use Rattle.bmp_levels.proofs.sums.add_multiples.Given as goal

-- the sums so far have grown, the later ones are as they were
abbrev pub invariant-loop-j : goal.invariant-loop-j
invariant-loop-j l = record {
  added : (i : ℕ) → i < l.j → get_or l.sums i 0 ≡ get_or l.fn.sums i 0 + l.factor * get_or l.numbers i 0;
  kept : (i : ℕ) → l.j ≤ i → get_or l.sums i 0 ≡ get_or l.fn.sums i 0;
  sums : length l.sums ≡ length l.fn.sums;
}
