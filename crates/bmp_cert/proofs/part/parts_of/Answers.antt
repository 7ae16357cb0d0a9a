use Rattle.std.proofs.Common.{◌+◌, ◌-◌, arith}
use Rattle.std.proofs.lemmas.Result.{err_from_is_err_and}
use Rattle.bmp_text.specs.Readers.{list_with}
use Rattle.bmp_text.proofs.Loops.{chain_on, chain_all, pushed_all}
use Rattle.bmp_cert.proofs.AnswerLemmas.{chain_stop, pushed_stop}
use Rattle.bmp_cert.specs.CertGrammar.{part_at, step_down}
use Rattle.bmp_cert.proofs.part.parts_of.Goals as goal

pub parts-preserved : goal.parts-preserved
parts-preserved c = record {
  small = omega arith;
  read = rw (c.in_ok-push.ensures.ok, c.saturating_sub-number.ensures)
      (chain_on list_with (part_at c.args.version (c.args.count - 1) c.args.most c.args.degree) step_down _
      (c.args.count - c.parts.counter) (c.args.count - (c.parts.counter + 1)) c.parts.number c.parts.lines _
      c.parts.list c.in_ok-vertex.vertex (omega arith) c.in_ok-vertex.ensures.gives c.parts.invariant.read);
  later = λ d h. c.in_ok-vertex.ensures.later d (c.parts.invariant.later d h);
}

pub returns-in_err-vertex-clause-gives : goal.returns-in_err-vertex-clause-gives
returns-in_err-vertex-clause-gives c =
    let p = err_from_is_err_and c.from_residual.result c.from_residual.ensures.1 in
    rw (p.1, p.2) (pushed_stop _ _
    (chain_stop list_with (part_at c.args.version (c.args.count - 1) c.args.most c.args.degree) step_down _
    (c.args.count - c.parts.counter) (c.args.count - (c.parts.counter + 1)) c.parts.number c.parts.lines
    c.parts.list c.in_err-vertex.field-0.0 (omega arith) c.in_err-vertex.ensures.gives c.parts.invariant.read))

pub returns-clause-gives : goal.returns-clause-gives
returns-clause-gives c =
    pushed_all _ _ _ (chain_all list_with (part_at c.args.version (c.args.count - 1) c.args.most c.args.degree)
    step_down _ (c.args.count - c.parts.counter) c.parts.number c.parts.lines c.parts.list (omega arith)
    c.parts.invariant.read)
