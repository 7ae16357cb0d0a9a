use Rattle.std.proofs.Common.{◌+◌, ◌-◌, arith}
use Rattle.std.proofs.lemmas.Result.{err_from_is_err_and}
use Rattle.bmp_text.specs.Readers.{list_with}
use Rattle.bmp_text.proofs.Loops.{chain_on, chain_all, pushed_all}
use Rattle.bmp_cert.proofs.AnswerLemmas.{chain_stop, pushed_stop}
use Rattle.bmp_cert.specs.VectorGrammar.{entry, behind_place}
use Rattle.bmp_cert.proofs.VectorLemmas.{fits_behind}
use Rattle.bmp_cert.proofs.vector.entries_of.Goals as goal

pub entries-preserved : goal.entries-preserved
entries-preserved c = (
  (
    omega arith,
    rw (c.in_ok-push.ensures.ok, c.from-next.ensures)
        (fits_behind c.entries.entries c.entries.next c.in_ok-entry.entry c.entries.invariant.0.1
        c.in_ok-entry.ensures.within.0),
  ),
  rw (c.in_ok-push.ensures.ok, c.from-next.ensures)
      (chain_on list_with (entry c.args.most) behind_place _ (c.args.count - c.entries.counter)
      (c.args.count - (c.entries.counter + 1)) c.entries.next c.entries.line _ c.entries.entries c.in_ok-entry.entry
      (omega arith) c.in_ok-entry.ensures.gives c.entries.invariant.1),
)

pub returns-in_err-entry : goal.returns-in_err-entry
returns-in_err-entry c =
    let p = err_from_is_err_and c.from_residual-in_err-entry.result c.from_residual-in_err-entry.ensures.1 in
    rw (p.1, p.2) (pushed_stop _ _
    (chain_stop list_with (entry c.args.most) behind_place _ (c.args.count - c.entries.counter)
    (c.args.count - (c.entries.counter + 1)) c.entries.next c.entries.line c.entries.entries
    c.in_err-entry.field-0.0 (omega arith) c.in_err-entry.ensures.gives c.entries.invariant.1))

pub returns : goal.returns
returns c = pushed_all _ _ _
    (chain_all list_with (entry c.args.most) behind_place _ (c.args.count - c.entries.counter) c.entries.next
    c.entries.line c.entries.entries (omega arith) c.entries.invariant.1)
