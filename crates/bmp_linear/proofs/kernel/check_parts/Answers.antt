use Rattle.std.proofs.Common.{rules, arith}
use Rattle.std.proofs.lemmas.Result.{err_from_is_err_and}
use Rattle.bmp_linear.proofs.KernelLemmas.{basis_passed, free_failed, zero_failed, pivots_passed, pivots_failed, kernel_passed}
use Rattle.bmp_linear.proofs.kernel.check_parts.Goals as goal

pub returns-in_err-check_free-clause-fault : goal.returns-in_err-check_free-clause-fault
returns-in_err-check_free-clause-fault g c =
    let p = err_from_is_err_and c.from_residual.result c.from_residual.ensures.1 in
    rw (p.1, p.2) (free_failed _ _ _ c.loop-index.index _ c.loop-index.invariant
    (rw c.cols.ensures at c.in_err-check_free.ensures.fault))

pub returns-in_err-check_zero-clause-fault : goal.returns-in_err-check_zero-clause-fault
returns-in_err-check_zero-clause-fault g c =
    let p = err_from_is_err_and c.from_residual-in_err-check_zero.result c.from_residual-in_err-check_zero.ensures.1 in
    rw (p.1, p.2) (zero_failed _ _ _ c.loop-index.index _ c.loop-index.invariant
    (rw c.cols.ensures at c.in_ok-check_free.ensures.ok) c.in_err-check_zero.ensures.fault)

pub loop-index-preserved : goal.loop-index-preserved
loop-index-preserved g c =
    basis_passed _ _ _ c.loop-index.index (search rules) c.loop-index.invariant
    (rw c.cols.ensures at c.in_ok-check_free.ensures.ok) c.in_ok-check_zero.ensures.ok

pub returns-in_err-check_pivots-clause-fault : goal.returns-in_err-check_pivots-clause-fault
returns-in_err-check_pivots-clause-fault g c =
    let p = err_from_is_err_and c.from_residual-in_err-check_pivots.result
    c.from_residual-in_err-check_pivots.ensures.1 in
    rw (p.1, p.2) (pivots_failed _ _ _ c.loop-index-2.index _ c.loop-index-2.invariant
    c.in_err-check_pivots.ensures.fault)

pub loop-index-2-preserved : goal.loop-index-2-preserved
loop-index-2-preserved g c =
    pivots_passed _ _ _ c.loop-index-2.index c.loop-index-2.invariant c.in_ok-check_pivots.ensures.ok

pub loop-index-2-init : goal.loop-index-2-init
loop-index-2-init g c = λ r compared below. c.loop-index.invariant r compared (omega (arith, below))

pub returns-clause-ok : goal.returns-clause-ok
returns-clause-ok g c = kernel_passed _ _ _ c.loop-index-2.index (search rules) c.loop-index-2.invariant
