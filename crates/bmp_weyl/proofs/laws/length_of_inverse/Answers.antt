use Rattle.std.proofs.Math.Path.{fun_ext}
use Rattle.bmp_weyl.proofs.ActionLemmas.{acts-reverse}
use Rattle.bmp_weyl.proofs.ExchangeLemmas.{length-inverse}
use Rattle.bmp_weyl.proofs.laws.length_of_inverse.Goals as goal

pub returns : goal.returns
returns c m roots system u letters =
    (fun_ext (λ v. acts-reverse m system.form u letters v), length-inverse m roots system u letters)
