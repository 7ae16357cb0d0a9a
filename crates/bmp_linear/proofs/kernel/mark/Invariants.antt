use Rattle.std.proofs.Common.{◌≡◌, ℕ, ◌<◌, length, get_or, take, cond}
use Rattle.bmp_linear.specs.FreePlaces.{has_place}
use Rattle.bmp_linear.proofs.kernel.mark.Given as goal

-- the places so far are marked
abbrev pub invariant-loop-place : goal.invariant-loop-place
invariant-loop-place l =
    (j : ℕ) → j < length l.marks → get_or l.marks j 0 ≡ cond (has_place (take l.place-index l.place-items) j) 1 0
