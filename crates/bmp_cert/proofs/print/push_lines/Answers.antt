use Rattle.bmp_cert.proofs.print.push_lines.Goals as goal

pub push_rows-requires : goal.push_rows-requires
push_rows-requires c = rw c.as_slice.ensures c.requires.cartan.0
