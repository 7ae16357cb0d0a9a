use Rattle.std.proofs.Common.{◌+◌, ◌-◌, arith}
use Rattle.std.proofs.lemmas.Result.{err_from_is_err_and}
use Rattle.bmp_text.specs.Readers.{list_with, line, same}
use Rattle.bmp_text.proofs.Loops.{chain_on, chain_all, pushed_all}
use Rattle.bmp_cert.proofs.AnswerLemmas.{chain_stop, pushed_stop}
use Rattle.bmp_cert.specs.VectorGrammar.{vector}
use Rattle.bmp_cert.proofs.vector.vectors_of.Goals as goal

pub vectors-preserved : goal.vectors-preserved
vectors-preserved c = record {
  read = rw c.in_ok-push.ensures.ok
      (chain_on list_with (λ (s : Unit {0}). line c.args.word.now (vector c.args.most)) same _
      (c.args.count - c.vectors.counter) (c.args.count - (c.vectors.counter + 1)) tt c.vectors.lines _ c.vectors.list
      c.in_ok-vector.vector (omega arith) c.in_ok-vector.ensures.gives c.vectors.invariant.read);
  later = λ d h. c.in_ok-vector.ensures.later d (c.vectors.invariant.later d h);
}

pub returns-in_err-vector-clause-gives : goal.returns-in_err-vector-clause-gives
returns-in_err-vector-clause-gives c =
    let p = err_from_is_err_and c.from_residual.result c.from_residual.ensures.1 in
    rw (p.1, p.2) (pushed_stop _ _
    (chain_stop list_with (λ (s : Unit {0}). line c.args.word.now (vector c.args.most)) same _
    (c.args.count - c.vectors.counter) (c.args.count - (c.vectors.counter + 1)) tt c.vectors.lines c.vectors.list
    c.in_err-vector.field-0.0 (omega arith) c.in_err-vector.ensures.gives c.vectors.invariant.read))

pub returns-clause-gives : goal.returns-clause-gives
returns-clause-gives c =
    pushed_all _ _ _ (chain_all list_with (λ (s : Unit {0}). line c.args.word.now (vector c.args.most)) same _
    (c.args.count - c.vectors.counter) tt c.vectors.lines c.vectors.list (omega arith) c.vectors.invariant.read)
