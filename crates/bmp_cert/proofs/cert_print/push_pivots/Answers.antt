use Rattle.bmp_cert.proofs.CertPrinting.{pivots_printed}
use Rattle.bmp_cert.proofs.cert_print.push_pivots.Goals as goal

pub returns : goal.returns
returns c = rw (
  c.in_ok-push.ensures.items,
  c.in_ok-push_numbers.ensures,
  c.in_ok-extend_from_slice.ensures.items,
  c.as_slice.ensures.items,
) (pivots_printed c.args.out.now.items c.args.pivots.now)
