use Rattle.bmp_cert.proofs.CertPrinting.{degrees_printed}
use Rattle.bmp_cert.proofs.cert_print.push_vertex.Goals as goal

pub returns : goal.returns
returns c = rw (
  c.in_ok-push.ensures.items,
  c.in_ok-push_numbers.ensures,
  c.in_ok-push_number-2.ensures.ok,
  c.in_ok-push_number.ensures.ok,
  c.in_ok-extend_from_slice.ensures.items,
  c.as_slice.ensures.items,
  c.from.ensures,
  c.len.ensures,
) (degrees_printed c.args.out.now.items c.args.number c.args.degrees.now)
