use Rattle.std.proofs.Common.{◌∙◌, arith}
use Rattle.bmp_poly.proofs.Scanning.{count_is_before, count_small}
use Rattle.bmp_poly.proofs.monomials.count.Goals as goal

pub returns : goal.returns
returns c =
    let number = c.before-2.ensures ∙ count_is_before c.args.rank c.args.degree c.requires.some in
    record {
      number = number;
      most = omega (arith, number, count_small c.args.rank c.args.degree c.requires.rank c.requires.degree);
    }
