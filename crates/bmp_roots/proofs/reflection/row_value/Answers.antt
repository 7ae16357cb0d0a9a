use Rattle.std.proofs.Common.{◌≡◌, ◌∙◌, ap₂, sym, get_or, arith, pos, ◌*ℤ◌}
use Rattle.std.proofs.lemmas.Int.{ints, to_z-of_z}
use mir.Syntax.{w16, w64}
use mir.Val.{SFits}
use Rattle.bmp_math.proofs.IntegerSumLemmas.{integer_sum-zero, sum_step}
use Rattle.bmp_roots.proofs.RootLemmas.{row_is_pairing}
use Rattle.bmp_roots.specs.Pairs.{coordinates}
use Rattle.bmp_roots.proofs.reflection.row_value.Goals as goal

pub loop-j-init : goal.loop-j-init
loop-j-init c = (
  sym (integer_sum-zero _),
  (omega (arith, ints), omega (arith, ints)),
  c.rank-rank.ensures.value,
  omega (arith, c.rank-rank.ensures.value, c.rank-rank.ensures.form.at_most_six),
)

pub loop-j-preserved : goal.loop-j-preserved
loop-j-preserved c =
    let entry_fits : SFits w64 c.at.result = omega (arith, ints, c.at.ensures.within) in
    let place_fits : SFits w16 (get_or c.args.v.now c.loop-j.j (pos 0)) =
    omega (arith, ints, c.requires.small c.loop-j.j) in (
      sum_step _ _ _ _ _ c.loop-j.invariant.0
          (c.small_product-sum.ensures.value
          ∙ ap₂ (λ x y. x *ℤ y) (to_z-of_z w64 c.at.result entry_fits ∙ c.at.ensures.value)
          (to_z-of_z w16 _ place_fits))
          (omega (arith, ints)),
      (omega (arith, ints), omega (arith, ints)),
      c.loop-j.invariant.2,
      c.loop-j.invariant.3,
    )

pub returns-clause-value : goal.returns-clause-value
returns-clause-value c =
    let all : c.loop-j.j ≡ c.args.cartan.now.rank = omega arith in
    row_is_pairing c.args.cartan.now c.args.k c.loop-j.j (coordinates c.args.v.now) _ c.requires.row all
    c.loop-j.invariant.0
