use Rattle.std.proofs.Common.{◌≡◌, ◌∙◌, ap₂, sym, get_or, arith, pos, ◌*ℤ◌}
use Rattle.std.proofs.Math.IntN.{*ℤ_comm}
use Rattle.std.proofs.lemmas.Int.{ints, to_z-of_z}
use mir.Syntax.{w16, w64}
use mir.Val.{SFits}
use Rattle.bmp_roots.specs.RootPairs.{entry}
use Rattle.bmp_math.proofs.IntegerSumLemmas.{integer_sum-zero, sum_step}
use Rattle.bmp_roots.proofs.RootLemmas.{column_is_pairing}
use Rattle.bmp_roots.specs.Pairs.{coordinates}
use Rattle.bmp_roots.proofs.reflection.column_value.Goals as goal

pub loop-i-init : goal.loop-i-init
loop-i-init c = (
  sym (integer_sum-zero _),
  (omega (arith, ints), omega (arith, ints)),
  c.rank-rank.ensures.value,
  omega (arith, c.rank-rank.ensures.value, c.rank-rank.ensures.form.at_most_six),
)

pub loop-i-preserved : goal.loop-i-preserved
loop-i-preserved c =
    let entry_fits : SFits w64 c.at.result = omega (arith, ints, c.at.ensures.within) in
    let place_fits : SFits w16 (get_or c.args.v.now c.loop-i.i (pos 0)) =
    omega (arith, ints, c.requires.small c.loop-i.i) in (
      sum_step _ _ _ _ _ c.loop-i.invariant.0
          (c.small_product-sum.ensures.value
          ∙ ap₂ (λ x y. x *ℤ y) (to_z-of_z w64 c.at.result entry_fits ∙ c.at.ensures.value)
          (to_z-of_z w16 _ place_fits)
          ∙ *ℤ_comm (entry c.args.cartan.now c.loop-i.i c.args.k) (coordinates c.args.v.now c.loop-i.i))
          (omega (arith, ints)),
      (omega (arith, ints), omega (arith, ints)),
      c.loop-i.invariant.2,
      c.loop-i.invariant.3,
    )

pub returns-clause-value : goal.returns-clause-value
returns-clause-value c =
    let all : c.loop-i.i ≡ c.args.cartan.now.rank = omega arith in
    column_is_pairing c.args.cartan.now c.args.k c.loop-i.i (coordinates c.args.v.now) _ c.requires.column all
    c.loop-i.invariant.0
