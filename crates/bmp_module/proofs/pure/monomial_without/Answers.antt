use Rattle.std.proofs.Common.{◌∙◌, ◌-◌, ap, arith, take}
use Rattle.bmp_graded.specs.Quotients.{insert}
use Rattle.bmp_graded.proofs.PureLemmas.{exponents_narrower}
use Rattle.bmp_module.proofs.pure.monomial_without.Goals as goal

pub returns : goal.returns
returns c = c.with_variable.ensures ∙ ap (λ z. insert c.args.at (take 5 z)) c.monomial_at.ensures.exponents
    ∙ ap (insert c.args.at)
    (exponents_narrower 5 (c.args.rank - 1) c.args.degree c.args.i
    (omega (arith, c.requires.rank, c.requires.variable)))
