use Rattle.bmp_cert.proofs.CertPrinting.{vector_printed}
use Rattle.bmp_cert.proofs.cert_print.push_vector.Goals as goal

pub returns : goal.returns
returns c = rw (
  c.in_ok-push.ensures.items,
  c.in_ok-push_entries.ensures,
  c.in_ok-push_number.ensures.ok,
  c.in_ok-extend_from_slice.ensures.items,
  c.entries.ensures.items,
  c.from.ensures,
  c.len.ensures,
)
    (vector_printed c.args.out.now.items c.args.word.now c.args.v.now)
