use Rattle.std.proofs.Common.{arith}
use Rattle.bmp_poly.proofs.Replacing.{rest_of_sum}
use Rattle.bmp_poly.proofs.reduction.size_from.Goals as goal

pub returns : goal.returns
returns c = rest_of_sum c.args.m.now c.args.k c.loop-j.j c.loop-j.rest c.args.degree c.loop-j.invariant
    c.requires.degree (omega arith)
