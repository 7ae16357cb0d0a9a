use Rattle.bmp_poly.proofs.Scanning.{table_is}
use Rattle.bmp_poly.proofs.monomials.before.Goals as goal

pub returns : goal.returns
returns c = table_is c.args.n c.args.s c.requires.variables c.requires.degree
