use Rattle.std.proofs.Common.{ℕ, ◌≡◌, ◌<◌, length, slice_index}
use Rattle.bmp_elim.specs.Steps.{IsTakenAwayBelow}
use Rattle.bmp_elim.proofs.eliminate.read_factors.Given as goal

-- the factors of the rows so far are written
abbrev pub invariant-loop-i : goal.invariant-loop-i
invariant-loop-i g l =
    (length l.factors ≡ length l.fn.factors)
    × ((k : ℕ) → k < l.i → slice_index l.factors k < g.F.Field.size l.f)
    × IsTakenAwayBelow l.i (g.F.Field.size l.f) (g.A.Rows.matrix l.a) l.col l.factors
