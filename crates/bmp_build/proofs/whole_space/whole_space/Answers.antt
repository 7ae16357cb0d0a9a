use Rattle.std.proofs.Common.{◌<◌, ◌^◌, ◌∙◌, ap, subst}
use Rattle.bmp_build.proofs.WholeSizes.{space_is_whole}
use Rattle.bmp_build.proofs.whole_space.whole_space.Goals as goal

pub returns-clause-kernel : goal.returns-clause-kernel
returns-clause-kernel g c =
    let counted = c.in_ok-equations.ensures in
    let evidence = c.in_ok-evidence.ensures in
    space_is_whole c.in_ok-rows.ensures.matrix counted.few_positions
    (subst (λ n. n < 2 ^ 32) counted.number counted.few)
    (ap g.F.Field.size c.field.ensures.field ∙ c.field.ensures.size) evidence.fits evidence.values evidence.passes
