use Rattle.std.proofs.Common.{◌%◌, get_or}
use Rattle.bmp_math.specs.Vectors.{unit}
use Rattle.bmp_math.specs.Matrices.{combination}
use Rattle.bmp_linear.specs.Evidence.{vector_at}
use Rattle.bmp_linear.proofs.FaultLemmas.{AllAgree}
use Rattle.bmp_linear.proofs.kernel.check_pivots.Given as goal

-- the combination is right at the pivots so far
abbrev pub invariant-loop-s : goal.invariant-loop-s
invariant-loop-s g l =
    let a = g.A.Rows.matrix l.a in
    AllAgree l.s (λ s. combination (vector_at l.e.rows l.index) a.entry a.rows (get_or l.e.pivots s 0)
    % g.F.Field.size l.f) (λ s. unit s l.index)
