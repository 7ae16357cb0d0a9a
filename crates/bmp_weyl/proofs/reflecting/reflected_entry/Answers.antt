use Rattle.std.proofs.Common.{◌≡◌, ◌∙◌, ap₂, sym, subst, arith, ◌-ℤ◌, ◌*ℤ◌}
use Rattle.std.proofs.lemmas.Int.{ints, to_z-of_z}
use mir.Syntax.{w16, w32}
use mir.Val.{SFits}
use Rattle.bmp_math.specs.Integers.{IsWithin}
use Rattle.bmp_math.specs.IntegerSums.{integer_unit}
use Rattle.bmp_weyl.proofs.reflecting.reflected_entry.Goals as goal

pub overflow_cast-result-2 : goal.overflow_cast-result-2
overflow_cast-result-2 c =
    let value_fits : SFits w32 c.args.value = omega (arith, ints, c.requires.value) in
    let coordinate_fits : SFits w16 c.args.coordinate = omega (arith, ints, c.requires.coordinate) in
    let same : c.unit_entry.result -ℤ c.scaled.result ≡ integer_unit c.args.j c.args.i -ℤ c.args.value *ℤ
    c.args.coordinate =
    ap₂ (λ x y. x -ℤ y) c.unit_entry.ensures.value
    (c.scaled.ensures.product ∙ ap₂ (λ x y. x *ℤ y) (to_z-of_z w32 c.args.value value_fits)
    (to_z-of_z w16 c.args.coordinate coordinate_fits)) in
    let small : IsWithin 32 (c.unit_entry.result -ℤ c.scaled.result) =
    subst (λ z. IsWithin 32 z) (sym same) c.requires.fits in
    omega (arith, ints)

pub returns : goal.returns
returns c =
    let value_fits : SFits w32 c.args.value = omega (arith, ints, c.requires.value) in
    let coordinate_fits : SFits w16 c.args.coordinate = omega (arith, ints, c.requires.coordinate) in
    let same : c.unit_entry.result -ℤ c.scaled.result ≡ integer_unit c.args.j c.args.i -ℤ c.args.value *ℤ
    c.args.coordinate =
    ap₂ (λ x y. x -ℤ y) c.unit_entry.ensures.value
    (c.scaled.ensures.product ∙ ap₂ (λ x y. x *ℤ y) (to_z-of_z w32 c.args.value value_fits)
    (to_z-of_z w16 c.args.coordinate coordinate_fits)) in
    let small : IsWithin 32 (c.unit_entry.result -ℤ c.scaled.result) =
    subst (λ z. IsWithin 32 z) (sym same) c.requires.fits in
    (omega (arith, ints)) ∙ same
