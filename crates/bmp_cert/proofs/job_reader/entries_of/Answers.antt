use Rattle.std.proofs.Common.{◌+◌, ◌-◌, pos, negsuc, arith, refl}
use Rattle.std.proofs.lemmas.Result.{err_from_is_err_and}
use Rattle.bmp_text.proofs.Loops.{chain_onto, chain_all, pushed_all}
use Rattle.bmp_cert.proofs.AnswerLemmas.{chain_stop, pushed_stop}
use Rattle.bmp_text.specs.Cursor.{number}
use Rattle.bmp_text.specs.Readers.{list_with, same}
use Rattle.bmp_cert.proofs.job_reader.entries_of.Goals as goal

pub entries-preserved : goal.entries-preserved
entries-preserved c =
    chain_onto list_with (λ (s : Unit {0}). number (negsuc 999) (pos 1000)) same _ (c.args.count - c.entries.counter)
    (c.args.count - (c.entries.counter + 1)) tt c.entries.line _ c.entries.row.items _ (λ a. refl) (omega arith)
    c.in_ok-push_entry.ensures c.entries.invariant

pub returns-in_err-push_entry : goal.returns-in_err-push_entry
returns-in_err-push_entry c =
    let p = err_from_is_err_and c.from_residual.result c.from_residual.ensures.1 in
    rw (p.1, p.2) (pushed_stop _ _
    (chain_stop list_with (λ (s : Unit {0}). number (negsuc 999) (pos 1000)) same _
    (c.args.count - c.entries.counter) (c.args.count - (c.entries.counter + 1)) tt c.entries.line
    c.entries.row.items c.in_err-push_entry.field-0.0 (omega arith) c.in_err-push_entry.ensures
    c.entries.invariant))

pub returns : goal.returns
returns c = pushed_all _ _ _
    (chain_all list_with (λ (s : Unit {0}). number (negsuc 999) (pos 1000)) same _ (c.args.count - c.entries.counter) tt
    c.entries.line c.entries.row.items (omega arith) c.entries.invariant)
