use Rattle.std.proofs.Common.{◌%◌}
use Rattle.bmp_math.specs.Vectors.{unit}
use Rattle.bmp_math.specs.Matrices.{image}
use Rattle.bmp_linear.specs.SparseVectors.{number_at}
use Rattle.bmp_linear.proofs.FaultLemmas.{AllAgree}
use Rattle.bmp_linear.proofs.dual.check_dual.Given as goal

-- the form is right on the rows so far
abbrev pub invariant-loop-i : goal.invariant-loop-i
invariant-loop-i g l =
    AllAgree l.i (λ i. image (g.A.Rows.matrix l.a) (number_at l.form) i % g.F.Field.size l.f) (unit l.own)
