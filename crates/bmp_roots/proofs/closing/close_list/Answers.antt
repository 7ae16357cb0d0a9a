use Rattle.std.proofs.Common.{arith}
use Rattle.bmp_roots.specs.Pairs.{pairs_of}
use Rattle.bmp_roots.proofs.ClosingLemmas.{closed_is_finite}
use Rattle.bmp_roots.proofs.ClosingSteps.{grown_start, nothing_done, all_done, refusal_is_right, on_err}
use Rattle.bmp_roots.proofs.closing.close_list.Goals as goal

pub loop-i-init : goal.loop-i-init
loop-i-init c = (
  grown_start c.args.cartan.now c.simple_list-list.result c.rank.result c.simple_list-list.ensures
      c.rank.ensures.value,
  nothing_done c.args.cartan.now c.simple_list-list.result,
  omega arith,
)

pub returns-in_err-grow_row-clause-not_finite : goal.returns-in_err-grow_row-clause-not_finite
returns-in_err-grow_row-clause-not_finite c =
    on_err c.from_residual.result (refusal_is_right c.args.cartan.now _ _ c.in_err-grow_row.ensures.refused)

pub returns-clause-closed : goal.returns-clause-closed
returns-clause-closed c =
    all_done c.args.cartan.now c.loop-i.list c.loop-i.i (omega arith) c.loop-i.invariant.0 c.loop-i.invariant.1

pub returns-clause-finite : goal.returns-clause-finite
returns-clause-finite c =
    closed_is_finite c.args.cartan.now c.rank.ensures.form.at_most_six (pairs_of c.loop-i.list)
    (all_done c.args.cartan.now c.loop-i.list c.loop-i.i (omega arith) c.loop-i.invariant.0 c.loop-i.invariant.1)
