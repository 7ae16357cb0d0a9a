use Rattle.bmp_check.specs.Verdicts.{ShapePassesAt}
use Rattle.bmp_check.proofs.BlockLemmas.{HoldsBefore}
use Rattle.bmp_check.specs.ShapedViews.{method_in, written_in}
use Rattle.bmp_check.proofs.shape_pass.check_shape.Given as goal

-- the blocks so far pass
abbrev pub invariant-each : goal.invariant-each
invariant-each l = HoldsBefore (ShapePassesAt l.graph (method_in l.c) (written_in l.c)) l.vertices l.degree l.i
