use Rattle.std.proofs.Common.{◌≡◌, ◌/◌, ◌%◌, ◌∙◌, ap₂, sym, subst, arith, length-set, rules, get_or, pos, ℤ, ◌-ℤ◌, ◌*ℤ◌}
use Rattle.std.proofs.lemmas.Int.{ints, to_z-of_z}
use mir.Syntax.{w8, w16, w32}
use mir.Val.{SFits, to_z, of_z}
use Rattle.bmp_math.specs.Integers.{IsWithin}
use Rattle.bmp_math.specs.IntegerSums.{integer_unit}
use Rattle.bmp_roots.specs.RootPairs.{across}
use Rattle.bmp_roots.specs.Pairs.{root_pair}
use Rattle.bmp_weyl.proofs.PlaceLemmas.{cells_from_places, written}
use Rattle.bmp_weyl.proofs.reflecting.reflection_entries.Goals as goal

pub reflected_entry-requires : goal.reflected_entry-requires
reflected_entry-requires c =
    let i = c.loop-place.place / 6 in
    let j = c.loop-place.place % 6 in
    let value : ℤ = get_or c.coroot_values-values.result j (pos 0) in
    let coordinate : ℤ = get_or c.args.root.now i (pos 0) in
    let value_within : IsWithin 6144 value = c.coroot_values-values.ensures.within j in
    let value_fits : SFits w32 value = omega (arith, ints) in
    let coordinate_within : IsWithin 32 coordinate = c.requires.root i in
    let coordinate_fits : SFits w16 coordinate = omega (arith, ints) in
    let value_is : to_z w32 (of_z w32 value) ≡ value = to_z-of_z w32 value value_fits in
    let coordinate_is : to_z w16 (of_z w16 coordinate) ≡ coordinate = to_z-of_z w16 coordinate coordinate_fits in
    record {
      value = subst (λ z. IsWithin 6144 z) (sym value_is) value_within;
      coordinate = subst (λ z. IsWithin 32 z) (sym coordinate_is) coordinate_within;
      fits = subst (λ z. IsWithin 32 z)
          (sym (ap₂ (λ x y. integer_unit j i -ℤ x *ℤ y) (value_is ∙ c.coroot_values-values.ensures.values j)
          coordinate_is))
          (c.requires.fits i j);
    }

pub loop-place-preserved : goal.loop-place-preserved
loop-place-preserved c =
    let i = c.loop-place.place / 6 in
    let j = c.loop-place.place % 6 in
    let value : ℤ = get_or c.coroot_values-values.result j (pos 0) in
    let coordinate : ℤ = get_or c.args.root.now i (pos 0) in
    let value_within : IsWithin 6144 value = c.coroot_values-values.ensures.within j in
    let value_fits : SFits w32 value = omega (arith, ints) in
    let coordinate_within : IsWithin 32 coordinate = c.requires.root i in
    let coordinate_fits : SFits w16 coordinate = omega (arith, ints) in
    let value_is : to_z w32 (of_z w32 value) ≡ value = to_z-of_z w32 value value_fits in
    let coordinate_is : to_z w16 (of_z w16 coordinate) ≡ coordinate = to_z-of_z w16 coordinate coordinate_fits in
    let fits : SFits w8 c.reflected_entry.result = search rules in (
      simp length-set c.loop-place.invariant.0,
      written c.loop-place.entries c.loop-place.place _
          (λ q. across c.args.cartan.now (root_pair c.args.root.now c.args.coroot.now) (integer_unit (q % 6)) (q / 6))
          (omega arith) c.loop-place.invariant.1
          (to_z-of_z w8 c.reflected_entry.result fits ∙ c.reflected_entry.ensures
          ∙ ap₂ (λ x y. integer_unit j i -ℤ x *ℤ y) (value_is ∙ c.coroot_values-values.ensures.values j) coordinate_is),
    )

pub returns-clause-cells : goal.returns-clause-cells
returns-clause-cells c =
    cells_from_places (λ i j. across c.args.cartan.now (root_pair c.args.root.now c.args.coroot.now) (integer_unit j) i)
    c.loop-place.entries (λ q l. c.loop-place.invariant.1 q (omega arith))
