use Rattle.std.proofs.Common.{◌==◌, count_by, ◌+◌, ◌-◌, arith}
use Rattle.std.proofs.lemmas.Result.{err_from_is_err_and}
use Rattle.bmp_text.specs.Readers.{list_with}
use Rattle.bmp_text.proofs.Loops.{chain_on, chain_all, pushed_all}
use Rattle.bmp_cert.proofs.AnswerLemmas.{chain_stop, pushed_stop}
use Rattle.bmp_cert.specs.BlockGrammar.{block}
use Rattle.bmp_cert.specs.CertGrammar.{step_up}
use Rattle.bmp_cert.proofs.block.blocks_of.Goals as goal

pub each-preserved : goal.each-preserved
each-preserved c = record {
  read = rw c.in_ok-push.ensures.ok
      (chain_on list_with (block c.args.version c.args.most (λ d. count_by (λ e. e == d) c.args.degrees.now)) step_up _
      (c.args.count - c.each.degree) (c.args.count - (c.each.degree + 1)) c.each.degree c.each.lines _ c.each.list
      c.in_ok-block.block (omega arith) c.in_ok-block.ensures.gives c.each.invariant.read);
  later = λ d h. c.in_ok-block.ensures.later d (c.each.invariant.later d h);
}

pub returns-in_err-block-clause-gives : goal.returns-in_err-block-clause-gives
returns-in_err-block-clause-gives c =
    let p = err_from_is_err_and c.from_residual.result c.from_residual.ensures.1 in
    rw (p.1, p.2) (pushed_stop _ _
    (chain_stop list_with (block c.args.version c.args.most (λ d. count_by (λ e. e == d) c.args.degrees.now))
    step_up _ (c.args.count - c.each.degree) (c.args.count - (c.each.degree + 1)) c.each.degree c.each.lines
    c.each.list c.in_err-block.field-0.0 (omega arith) c.in_err-block.ensures.gives c.each.invariant.read))

pub returns-clause-gives : goal.returns-clause-gives
returns-clause-gives c =
    pushed_all _ _ _ (chain_all list_with
    (block c.args.version c.args.most (λ d. count_by (λ e. e == d) c.args.degrees.now)) step_up _
    (c.args.count - c.each.degree) c.each.degree c.each.lines c.each.list (omega arith) c.each.invariant.read)
