use Rattle.std.proofs.Common.{◌<◌, refl, arith}
use Rattle.std.proofs.lemmas.Result.{err_from_is_err_and}
use Rattle.bmp_check.specs.BlockOrder.{block_count}
use Rattle.bmp_check.specs.Sizes.{shape_sizes}
use Rattle.bmp_check.specs.Verdicts.{ShapePassesAt, IsShapeRefusal}
use Rattle.bmp_check.proofs.BlockLemmas.{blocks_all, blocks_here, blocks_earlier, blocks_more}
use Rattle.bmp_check.proofs.SizeCheckLemmas.{first_differs}
use Rattle.bmp_check.specs.ShapedViews.{method_in, written_in}
use Rattle.bmp_check.proofs.shape_pass.check_shape.Goals as goal

pub each-preserved : goal.each-preserved
each-preserved c =
    blocks_more c.args.graph.now (written_in c.args.c.now)
    (ShapePassesAt c.args.graph.now (method_in c.args.c.now) (written_in c.args.c.now)) c.vertices-vertices.result
    c.args.c.now.degree c.each.i
    c.vertices-vertices.ensures.count refl c.each.invariant c.block_at-x.result.0 c.block_at-x.result.1
    (omega (arith, c.each-test.true, c.block_count-i-end.ensures.count))
    c.block_at-x.ensures.vertex c.block_at-x.ensures.degree c.in_ok-check_shape_at.ensures

pub returns-in_err-check_shape_at-clause-first : goal.returns-in_err-check_shape_at-clause-first
returns-in_err-check_shape_at-clause-first c =
    let G = c.args.graph.now in
    let cert = written_in c.args.c.now in
    let n = c.vertices-vertices.result in
    let D = c.args.c.now.degree in
    let x = c.block_at-x.result.0 in
    let d = c.block_at-x.result.1 in
    let passes = ShapePassesAt G (method_in c.args.c.now) cert in
    let below : c.each.i < block_count n D = omega (arith, c.each-test.true, c.block_count-i-end.ensures.count) in
    let p = err_from_is_err_and c.from_residual.result c.from_residual.ensures.1 in
    let refusal : IsShapeRefusal G (method_in c.args.c.now) cert c.in_err-check_shape_at.field-0.0 = record {
      vertex = x;
      degree = d;
      block = blocks_here G cert passes n D c.each.i c.vertices-vertices.ensures.count refl c.each.invariant x d below
          c.block_at-x.ensures.vertex c.block_at-x.ensures.degree;
      earlier = blocks_earlier G cert passes n D c.each.i c.vertices-vertices.ensures.count refl c.each.invariant x d
          below c.block_at-x.ensures.vertex c.block_at-x.ensures.degree;
      first = c.in_err-check_shape_at.ensures;
    } in
    rw (p.1, p.2) refusal

pub returns-in_err-check_shape_at-clause-differ : goal.returns-in_err-check_shape_at-clause-differ
returns-in_err-check_shape_at-clause-differ c =
    let p = err_from_is_err_and c.from_residual.result c.from_residual.ensures.1 in
    let x = c.block_at-x.result.0 in
    let d = c.block_at-x.result.1 in
    rw (p.1, p.2) (first_differs x d
    (shape_sizes c.args.graph.now (method_in c.args.c.now) (written_in c.args.c.now) x d) 0
    c.in_err-check_shape_at.field-0.0 c.in_err-check_shape_at.ensures)

pub returns-clause-first : goal.returns-clause-first
returns-clause-first c =
    blocks_all c.args.graph.now (written_in c.args.c.now)
    (ShapePassesAt c.args.graph.now (method_in c.args.c.now) (written_in c.args.c.now)) c.vertices-vertices.result
    c.args.c.now.degree c.each.i
    c.vertices-vertices.ensures.count refl c.each.invariant
    (omega (arith, c.each-test.false, c.block_count-i-end.ensures.count))
