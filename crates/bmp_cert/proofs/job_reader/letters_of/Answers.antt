use Rattle.std.proofs.Common.{◌+◌, ◌-◌, arith}
use Rattle.std.proofs.lemmas.Result.{err_from_is_err_and}
use Rattle.bmp_text.proofs.Loops.{chain_on, chain_all, pushed_all}
use Rattle.bmp_cert.proofs.AnswerLemmas.{chain_stop, pushed_stop}
use Rattle.bmp_text.specs.Cursor.{natural}
use Rattle.bmp_text.specs.Readers.{list_with, same}
use Rattle.bmp_cert.proofs.job_reader.letters_of.Goals as goal

pub letters-preserved : goal.letters-preserved
letters-preserved c =
    rw c.in_ok-push.ensures.ok
    (chain_on list_with (λ (s : Unit {0}). natural 0 255) same _ (c.args.count - c.letters.counter)
    (c.args.count - (c.letters.counter + 1)) tt c.letters.line _ c.letters.letters c.in_ok-letter.letter (omega arith)
    c.in_ok-letter.ensures c.letters.invariant)

pub returns-in_err-letter : goal.returns-in_err-letter
returns-in_err-letter c =
    let p = err_from_is_err_and c.from_residual.result c.from_residual.ensures.1 in
    rw (p.1, p.2) (pushed_stop _ _
    (chain_stop list_with (λ (s : Unit {0}). natural 0 255) same _ (c.args.count - c.letters.counter)
    (c.args.count - (c.letters.counter + 1)) tt c.letters.line c.letters.letters c.in_err-letter.field-0.0
    (omega arith) c.in_err-letter.ensures c.letters.invariant))

pub returns : goal.returns
returns c = pushed_all _ _ _
    (chain_all list_with (λ (s : Unit {0}). natural 0 255) same _ (c.args.count - c.letters.counter) tt c.letters.line
    c.letters.letters (omega arith) c.letters.invariant)
