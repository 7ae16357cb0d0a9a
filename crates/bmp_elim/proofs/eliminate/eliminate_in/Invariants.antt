use Rattle.std.proofs.Common.{◌≡◌, length}
use Rattle.bmp_elim.specs.Steps.{IsEliminated}
use Rattle.bmp_elim.proofs.eliminate.eliminate_in.Given as goal

-- the columns that were passed are reduced
abbrev pub invariant-loop-col : goal.invariant-loop-col
invariant-loop-col g l =
    (length l.factors ≡ length l.fn.factors)
    × IsEliminated (g.F.Field.size l.f) l.col (g.A.Rows.matrix l.fn.a) (g.A.Rows.matrix l.a) (g.T.Rows.matrix l.fn.t)
    (g.T.Rows.matrix l.t) l.pivots
