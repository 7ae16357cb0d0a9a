use Rattle.std.proofs.Common.{◌≡◌, ◌^◌, ◌∙◌, arith, refl, sym, subst, rules, get_or, ℤ, pos, ◌-ℤ◌}
use Rattle.std.specs.Prelude.{FitsSigned}
use Rattle.std.proofs.lemmas.Int.{ints, to_z-of_z}
use mir.Syntax.{w128}
use mir.Val.{SFits, to_z, of_z}
use Rattle.bmp_math.specs.Integers.{IsWithin}
use Rattle.bmp_kl.specs.PartLists.{part_value}
use Rattle.bmp_kl.proofs.HornerLemmas.{multiplied_none, multiplied_next, before_next, before_within, after_within}
use Rattle.bmp_kl.proofs.horner.multiply.Goals as goal

pub loop-i-init : goal.loop-i-init
loop-i-init c = (multiplied_none (part_value c.args.parts.now c.args.x c.args.d) c.args.row.now, refl)

pub multiplied-requires : goal.multiplied-requires
multiplied-requires c =
    let part_fits : FitsSigned w128 c.part_at.result = search rules in
    let after_fits : FitsSigned w128 c.after.result = search rules in
    record {
      part = subst (λ v. IsWithin (2 ^ 69) v) (sym (to_z-of_z w128 c.part_at.result part_fits ∙ c.part_at.ensures))
          (c.requires.small (pos c.loop-i.i -ℤ pos 72));
      before = subst (λ v. IsWithin (2 ^ 106) v) (sym c.loop-i.invariant.1)
          (before_within (part_value c.args.parts.now c.args.x c.args.d) c.loop-i.i c.args.row.now c.loop-i.row
          (2 ^ 106) c.requires.fits);
      after = subst (λ v. IsWithin (2 ^ 106) v) (sym (to_z-of_z w128 c.after.result after_fits ∙ c.after.ensures))
          (after_within (part_value c.args.parts.now c.args.x c.args.d) c.loop-i.i c.args.row.now c.loop-i.row
          (2 ^ 106) c.requires.fits c.loop-i.invariant.0);
    }

pub loop-i-preserved : goal.loop-i-preserved
loop-i-preserved c =
    let part_fits : FitsSigned w128 c.part_at.result = search rules in
    let after_fits : FitsSigned w128 c.after.result = search rules in
    let fits : FitsSigned w128 c.multiplied.result = search rules in
    let here : get_or c.loop-i.row c.loop-i.i (pos 0) ≡ get_or c.args.row.now c.loop-i.i (pos 0) =
    c.loop-i.invariant.0.kept c.loop-i.i (omega arith) in
    let here_within : IsWithin (2 ^ 106) (get_or c.loop-i.row c.loop-i.i (pos 0)) =
    subst (λ v. IsWithin (2 ^ 106) v) (sym here) (c.requires.fits c.loop-i.i) in
    let here_fits : SFits w128 (get_or c.loop-i.row c.loop-i.i (pos 0)) = omega (arith, ints, here_within) in (
      multiplied_next (part_value c.args.parts.now c.args.x c.args.d) c.loop-i.i c.args.row.now c.loop-i.row _ _ _ _ _
          c.loop-i.invariant.0 refl
          (omega (arith, c.requires.long))
          (to_z-of_z w128 c.part_at.result part_fits ∙ c.part_at.ensures) c.loop-i.invariant.1
          (to_z-of_z w128 c.after.result after_fits ∙ c.after.ensures) (to_z-of_z w128 c.multiplied.result fits
          ∙ c.multiplied.ensures),
      before_next (part_value c.args.parts.now c.args.x c.args.d) c.loop-i.i c.args.row.now c.loop-i.row _
          c.loop-i.invariant.0
          (to_z-of_z w128 (get_or c.loop-i.row c.loop-i.i (pos 0)) here_fits),
    )
