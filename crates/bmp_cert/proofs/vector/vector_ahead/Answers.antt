use Rattle.std.proofs.Common.{ℕ, ◌∙◌, sym, ap, arith, Ok}
use Rattle.bmp_text.specs.Cursor.{Cursor}
use Rattle.bmp_text.proofs.LaterLines.{line_read}
use Rattle.bmp_cert.specs.VectorGrammar.{vector}
use Rattle.bmp_cert.proofs.VectorLemmas.{vector_found, vector_cut}
use Rattle.bmp_cert.proofs.vector.vector_ahead.Goals as goal

pub pass_to-requires : goal.pass_to-requires
pass_to-requires c =
    let plain = rw c.in-Some.is at c.in_ok-vector.ensures.word in
    let fits = rw c.in-Some.is at c.in_ok-vector.ensures.vector in
    let read = rw c.in-Some.is at c.in_ok-vector.ensures.read in
    vector_cut c.args.word.now c.args.most c.args.lines.now c.in-Some.vector c.line_ahead.new.ahead plain (omega arith)
    fits (sym c.ahead-ahead.ensures ∙ read)

pub returns-clause-found : goal.returns-clause-found
returns-clause-found c =
    let plain = rw c.in-Some.is at c.in_ok-vector.ensures.word in
    let fits = rw c.in-Some.is at c.in_ok-vector.ensures.vector in
    let read = rw c.in-Some.is at c.in_ok-vector.ensures.read in
    vector_found c.args.word.now c.args.most c.args.lines.now c.in-Some.vector c.line_ahead.new.ahead plain
    (omega arith) fits (sym c.ahead-ahead.ensures ∙ read)
    ∙ ap (λ (t : Cursor ℕ). Ok (c.in-Some.vector, t)) (sym c.pass_to.ensures)

pub returns-clause-later : goal.returns-clause-later
returns-clause-later c =
    line_read c.args.word.now (vector c.args.most) c.args.lines.now c.pass_to.new.self c.in-Some.vector
    (returns-clause-found c)
