use Rattle.std.proofs.Common.{◌+◌, ◌-◌, arith}
use Rattle.std.proofs.lemmas.Result.{err_from_is_err_and}
use Rattle.bmp_text.specs.Readers.{list_with}
use Rattle.bmp_text.proofs.Loops.{chain_on, chain_all, pushed_all}
use Rattle.bmp_cert.proofs.AnswerLemmas.{chain_stop, pushed_stop}
use Rattle.bmp_cert.specs.VectorGrammar.{MOST}
use Rattle.bmp_text.specs.Cursor.{natural}
use Rattle.bmp_cert.proofs.vector.places_of.Goals as goal

pub places-preserved : goal.places-preserved
places-preserved c = (
  omega arith,
  rw (c.in_ok-push.ensures.ok, c.from-next.ensures)
      (chain_on list_with (λ low. natural low MOST) (λ p low. p + 1) _ (c.args.count - c.places.counter)
      (c.args.count - (c.places.counter + 1)) c.places.next c.places.line _ c.places.places c.in_ok-place.place
      (omega arith) c.in_ok-place.ensures c.places.invariant.1),
)

pub returns-in_err-place : goal.returns-in_err-place
returns-in_err-place c =
    let p = err_from_is_err_and c.from_residual-in_err-place.result c.from_residual-in_err-place.ensures.1 in
    rw (p.1, p.2) (pushed_stop _ _
    (chain_stop list_with (λ low. natural low MOST) (λ p low. p + 1) _ (c.args.count - c.places.counter)
    (c.args.count - (c.places.counter + 1)) c.places.next c.places.line c.places.places c.in_err-place.field-0.0
    (omega arith) c.in_err-place.ensures c.places.invariant.1))

pub returns : goal.returns
returns c = pushed_all _ _ _
    (chain_all list_with (λ low. natural low MOST) (λ p low. p + 1) _ (c.args.count - c.places.counter) c.places.next
    c.places.line c.places.places (omega arith) c.places.invariant.1)
