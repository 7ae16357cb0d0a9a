use Rattle.std.proofs.Common.{◌∙◌, ◌≡◌, arith, sym, subst}
use Rattle.std.proofs.lemmas.Int.{ints, to_z-of_z}
use mir.Syntax.{w32}
use mir.Val.{SFits, to_z, of_z}
use Rattle.bmp_math.specs.Integers.{IsWithin}
use Rattle.bmp_roots.specs.Pairs.{coordinates}
use Rattle.bmp_weyl.proofs.ReflectingLemmas.{AreValues, no_values, value_written, all_values}
use Rattle.bmp_weyl.proofs.reflecting.coroot_values.Goals as goal

pub loop-j-init : goal.loop-j-init
loop-j-init c = (
  no_values c.args.cartan.now (coordinates c.args.coroot.now),
  c.rank-rank.ensures.value,
  omega (arith, c.rank-rank.ensures.value, c.rank-rank.ensures.form.at_most_six),
)

pub loop-j-preserved : goal.loop-j-preserved
loop-j-preserved c =
    let within : IsWithin 6144 c.coroot_value.result = c.coroot_value.ensures.within in
    let fits : SFits w32 c.coroot_value.result = omega (arith, ints) in
    let is : to_z w32 (of_z w32 c.coroot_value.result) ≡ c.coroot_value.result =
    to_z-of_z w32 c.coroot_value.result fits in (
      value_written c.args.cartan.now (coordinates c.args.coroot.now) c.loop-j.values c.loop-j.j _ (omega arith)
          c.loop-j.invariant.0
          (is ∙ c.coroot_value.ensures.value) (subst (λ z. IsWithin 6144 z) (sym is) within),
      c.loop-j.invariant.1,
      c.loop-j.invariant.2,
    )

pub returns-clause-values : goal.returns-clause-values
returns-clause-values c =
    all_values c.args.cartan.now (coordinates c.args.coroot.now) c.loop-j.values
    (subst (λ n. AreValues c.args.cartan.now (coordinates c.args.coroot.now) c.loop-j.values n) (omega arith)
    c.loop-j.invariant.0)

pub returns-clause-within : goal.returns-clause-within
returns-clause-within c = c.loop-j.invariant.0.within
