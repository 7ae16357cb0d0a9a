use Rattle.std.proofs.Common.{arith}
use Rattle.std.proofs.lemmas.Result.{err_from_is_err_and}
use Rattle.bmp_check.specs.Sizes.{each_at_most}
use Rattle.bmp_check.proofs.SizeCheckLemmas.{exit_compares, each_more, each_fails}
use Rattle.bmp_check.proofs.size_check.SizeCheck.each_at_most.Goals as goal

pub vectors-preserved : goal.vectors-preserved
vectors-preserved c =
    each_more c.args.self.now c.vectors.self c.args.vectors.now c.args.most c.vectors.i c.at.result.now
    (omega (arith, c.len-count.ensures, c.vectors-test.true)) c.at.ensures
    c.at_most.new.self c.need.result c.need.ensures c.vectors.invariant c.in_ok-at_most.ensures.compares

pub returns-in_err-at_most-clause-compares : goal.returns-in_err-at_most-clause-compares
returns-in_err-at_most-clause-compares c =
    let p = err_from_is_err_and c.from_residual.result c.from_residual.ensures.1 in
    exit_compares c.args.self.now c.at_most.new.self (each_at_most c.args.vectors.now c.args.most)
    c.from_residual.result p.0 c.in_err-at_most.field-0.0 p.1 p.2
    (each_fails c.args.self.now c.vectors.self c.args.vectors.now c.args.most c.vectors.i c.at.result.now
    (omega (arith, c.len-count.ensures, c.vectors-test.true)) c.at.ensures
    c.in_err-at_most.field-0.0 c.need.result c.need.ensures c.vectors.invariant c.in_err-at_most.ensures.compares)
