use Rattle.std.proofs.Common.{◌≡◌, ◌*◌, ◌^◌, ◌∙◌, ap, ap₂, arith, ℤ, pos, ◌+ℤ◌, ◌*ℤ◌}
use Rattle.std.proofs.lemmas.Int.{ints, to_z-of_z}
use mir.Syntax.{w128}
use mir.Val.{SFits, to_z, of_z}
use Rattle.bmp_math.specs.Integers.{IsWithin}
use Rattle.bmp_math.proofs.IntegerLemmas.{product_within}
use Rattle.bmp_kl.proofs.parts.plus_product.Goals as goal

pub returns : goal.returns
returns c =
    let part_fits : SFits w128 c.args.part = omega (arith, ints, c.requires.part) in
    let top_fits : SFits w128 c.args.top = omega (arith, ints, c.requires.top) in
    let number_is : to_z w128 c.args.number ≡ pos c.args.number = omega (arith, ints, c.requires.number) in
    let within : IsWithin (2 ^ 36 * 1000000) (pos c.args.number *ℤ c.args.top) =
    product_within (2 ^ 36) 1000000 (pos c.args.number) c.args.top
    (omega (arith, ints), omega (arith, ints, c.requires.number)) c.requires.top in
    let product_fits : SFits w128 (pos c.args.number *ℤ c.args.top) = omega (arith, ints, within) in
    let sum_fits : SFits w128 (c.args.part +ℤ pos c.args.number *ℤ c.args.top) =
    omega (arith, ints, within, c.requires.part) in
    ap (λ z. to_z w128 (of_z w128 z))
    (ap₂ (λ a b. a +ℤ b) (to_z-of_z w128 c.args.part part_fits)
    (ap (λ z. to_z w128 (of_z w128 z)) (ap₂ (λ a b. a *ℤ b) number_is (to_z-of_z w128 c.args.top top_fits))
    ∙ to_z-of_z w128 (pos c.args.number *ℤ c.args.top) product_fits))
    ∙ to_z-of_z w128 (c.args.part +ℤ pos c.args.number *ℤ c.args.top) sum_fits
