use Rattle.std.proofs.Common.{arith, rules, ◌∙◌, ap₂, ◌-ℤ◌, pos, get_or, ◌<◌, length}
use Rattle.std.proofs.lemmas.Int.{ints, to_z-of_z}
use mir.Syntax.{w16, w32}
use mir.Val.{SFits}
use Rattle.bmp_roots.proofs.CoordinateLemmas.{lowered_is}
use Rattle.bmp_roots.proofs.reflection.lowered.Goals as goal

pub returns : goal.returns
returns c =
    let value : SFits w32 c.args.value = omega (arith, ints, c.requires.within) in
    let old : SFits w16 (get_or c.args.v.now c.args.k (pos 0)) = omega (arith, ints, c.requires.small c.args.k) in
    let new : SFits w16 c.difference.result = search rules in
    let inside : c.args.k < length c.args.v.now = omega (arith, c.told-v, c.requires.place) in
    lowered_is c.args.v.now c.args.k _ c.args.value inside
    (to_z-of_z w16 c.difference.result new ∙ c.difference.ensures
    ∙ ap₂ (λ x y. x -ℤ y) (to_z-of_z w16 _ old) (to_z-of_z w32 c.args.value value))
