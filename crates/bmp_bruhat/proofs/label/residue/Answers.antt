use Rattle.std.proofs.Common.{◌≡◌, ℤ, pos, w32, arith, sym, ap₂, subst, ◌∙◌}
use mir.Val.{SFits}
use Rattle.std.proofs.lemmas.Int.{to_z-of_z, to_z_pos}
use Rattle.std.specs.Int.{int_rem_euclid}
use lib.IntN.{nat_abs}
use Rattle.bmp_bruhat.specs.Labels.{IsResidue}
use Rattle.bmp_bruhat.proofs.ResidueLemmas.{residue_is}
use Rattle.bmp_bruhat.proofs.label.residue.Goals as goal

pub returns : goal.returns
returns c =
    let fits : SFits w32 c.rem_euclid.result = record { sfits = c.rem_euclid.type_inv } in
    let value : c.rem_euclid.result ≡ int_rem_euclid c.args.coordinate (pos c.args.prime) =
    c.rem_euclid.ensures.value
    ∙ ap₂ (λ (z d : ℤ). int_rem_euclid z d) (to_z-of_z w32 c.args.coordinate c.ranges.coordinate)
    (to_z_pos w32 c.args.prime (omega (arith, c.ranges.prime.fits))) in
    subst (λ (z : ℤ). IsResidue c.args.prime c.args.coordinate (nat_abs z))
    (sym (to_z-of_z w32 c.rem_euclid.result fits))
    (residue_is c.args.prime c.args.coordinate c.rem_euclid.result c.requires.prime value)
