use Rattle.std.proofs.Common.{◌+◌, ◌-◌, arith, codes}
use Rattle.std.proofs.lemmas.Result.{err_from_is_err_and}
use Rattle.bmp_cert.specs.JobGrammar.{with_row, entries}
use Rattle.bmp_text.proofs.Loops.{chain_on, chain_all}
use Rattle.bmp_cert.proofs.AnswerLemmas.{chain_stop}
use Rattle.bmp_text.specs.Readers.{line, same}
use Rattle.bmp_cert.proofs.job_reader.rows_of.Goals as goal

pub rows-preserved : goal.rows-preserved
rows-preserved c = record {
  read = rw (c.in_ok-append.ensures.ok, c.deref.ensures.value)
      (chain_on with_row (λ (s : Unit {0}). line (codes "row") (entries c.args.rank)) same _
      (c.args.rank - c.rows.counter) (c.args.rank - (c.rows.counter + 1)) tt c.rows.lines _ c.rows.entries
      c.in_ok-row.row.items (omega arith) c.in_ok-row.ensures.gives c.rows.invariant.read);
  later = λ d h. c.in_ok-row.ensures.later d (c.rows.invariant.later d h);
}

pub returns-in_err-row-clause-gives : goal.returns-in_err-row-clause-gives
returns-in_err-row-clause-gives c =
    let p = err_from_is_err_and c.from_residual.result c.from_residual.ensures.1 in
    rw (p.1, p.2) (chain_stop with_row (λ (s : Unit {0}). line (codes "row") (entries c.args.rank)) same _
    (c.args.rank - c.rows.counter) (c.args.rank - (c.rows.counter + 1)) tt c.rows.lines c.rows.entries
    c.in_err-row.field-0.0 (omega arith) c.in_err-row.ensures.gives c.rows.invariant.read)

pub returns-clause-gives : goal.returns-clause-gives
returns-clause-gives c =
    chain_all with_row (λ (s : Unit {0}). line (codes "row") (entries c.args.rank)) same _
    (c.args.rank - c.rows.counter) tt c.rows.lines c.rows.entries (omega arith) c.rows.invariant.read
