use Rattle.bmp_text.specs.Printing.{line_text}
use Rattle.bmp_text.proofs.PrintingLoops.{items_on, items_end}
use Rattle.bmp_cert.specs.VectorGrammar.{vector_text}
use Rattle.bmp_cert.proofs.cert_print.push_vectors.Goals as goal

pub lines-preserved : goal.lines-preserved
lines-preserved c =
    rw c.in_ok-push_vector.ensures
    (items_on (λ v. line_text c.args.word.now (vector_text v)) c.lines.out.items _ c.as_slice-list.result.now
    c.lines.vector-index _ c.lines-test.true c.vector-item.is c.lines.invariant)

pub returns : goal.returns
returns c = rw⁻¹ c.as_slice-list.ensures.items
    (items_end (λ v. line_text c.args.word.now (vector_text v)) c.lines.out.items _ c.as_slice-list.result.now
    c.lines.vector-index c.lines-test.false c.lines.invariant)
