use Rattle.std.proofs.Common.{◌%◌}
use Rattle.bmp_math.specs.Matrices.{combination}
use Rattle.bmp_linear.specs.SparseVectors.{number_at}
use Rattle.bmp_linear.proofs.FaultLemmas.{AllAgree}
use Rattle.bmp_linear.proofs.combination.check_columns.Given as goal

-- the columns so far agree
abbrev pub invariant-loop-j : goal.invariant-loop-j
invariant-loop-j g l =
    let a = g.A.Rows.matrix l.a in
    AllAgree l.j (λ j. combination (number_at l.c) a.entry a.rows j % g.F.Field.size l.f) (number_at l.target)
