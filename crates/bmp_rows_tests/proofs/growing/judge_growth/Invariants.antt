use denote.Shadow.{shadow}
use denote.Text.{Utf8}
use Rattle.bmp_field.specs.PrimeFields.{size_of}
use Rattle.bmp_elim.specs.GrowingBases.{GrewFromSome}
use Rattle.bmp_elim.specs.Triangles.{square_of}
use Rattle.bmp_rows_tests.proofs.growing.judge_growth.Given as goal

-- the basis is that of the rows that came
abbrev pub invariant-loop-i : goal.invariant-loop-i
invariant-loop-i g l =
    GrewFromSome (size_of l.f) (g.A.Rows.matrix l.basis.rows) (square_of l.basis.trace) l.basis.pivots
    l.basis.chosen l.basis.count × shadow (Utf8 l.found)
