use Rattle.std.proofs.Common.{◌+◌, ◌-◌, arith}
use Rattle.std.proofs.lemmas.Result.{err_from_is_err_and}
use Rattle.bmp_text.specs.Readers.{list_with}
use Rattle.bmp_text.proofs.Loops.{chain_on, chain_all, pushed_all}
use Rattle.bmp_cert.proofs.AnswerLemmas.{chain_stop, pushed_stop}
use Rattle.bmp_text.specs.Cursor.{natural}
use Rattle.bmp_cert.specs.CertGrammar.{from_degree}
use Rattle.bmp_cert.proofs.part.degrees_of.Goals as goal

pub degrees-preserved : goal.degrees-preserved
degrees-preserved c =
    rw c.in_ok-push.ensures.ok
    (chain_on list_with (λ low. natural low c.args.most) from_degree _ (c.args.count - c.degrees.counter)
    (c.args.count - (c.degrees.counter + 1)) c.degrees.low c.degrees.line _ c.degrees.list c.in_ok-degree.degree
    (omega arith) c.in_ok-degree.ensures c.degrees.invariant)

pub returns-in_err-degree : goal.returns-in_err-degree
returns-in_err-degree c =
    let p = err_from_is_err_and c.from_residual-in_err-degree.result c.from_residual-in_err-degree.ensures.1 in
    rw (p.1, p.2) (pushed_stop _ _
    (chain_stop list_with (λ low. natural low c.args.most) from_degree _ (c.args.count - c.degrees.counter)
    (c.args.count - (c.degrees.counter + 1)) c.degrees.low c.degrees.line c.degrees.list c.in_err-degree.field-0.0
    (omega arith) c.in_err-degree.ensures c.degrees.invariant))

pub returns : goal.returns
returns c = pushed_all _ _ _
    (chain_all list_with (λ low. natural low c.args.most) from_degree _ (c.args.count - c.degrees.counter) c.degrees.low
    c.degrees.line c.degrees.list (omega arith) c.degrees.invariant)
