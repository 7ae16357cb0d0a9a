use Rattle.std.proofs.Common.{◌≡◌, ℕ, ◌<◌, get_or}
use Rattle.bmp_elim.proofs.growing.first_place.Given as goal

-- 0 at the places that were passed
abbrev pub invariant-loop-j : goal.invariant-loop-j
invariant-loop-j l = (k : ℕ) → k < l.j → get_or l.numbers k 0 ≡ 0
