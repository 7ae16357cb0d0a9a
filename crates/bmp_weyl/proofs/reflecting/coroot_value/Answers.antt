use Rattle.std.proofs.Common.{◌≡◌, ◌∙◌, ap₂, sym, subst, arith, ◌*ℤ◌}
use Rattle.std.proofs.lemmas.Int.{ints, to_z-of_z}
use mir.Syntax.{w16, w64}
use mir.Val.{SFits}
use Rattle.bmp_math.specs.Integers.{IsWithin}
use Rattle.bmp_math.proofs.IntegerSumLemmas.{integer_sum-zero, sum_step}
use Rattle.bmp_roots.specs.RootPairs.{entry}
use Rattle.bmp_roots.specs.Pairs.{coordinates}
use Rattle.bmp_roots.proofs.RootLemmas.{column_is_pairing}
use Rattle.bmp_weyl.proofs.ReflectingLemmas.{entry_within}
use Rattle.bmp_weyl.proofs.reflecting.coroot_value.Goals as goal

pub loop-i-init : goal.loop-i-init
loop-i-init c = (
  sym (integer_sum-zero _),
  (omega (arith, ints), omega (arith, ints)),
  c.rank-rank.ensures.value,
  omega (arith, c.rank-rank.ensures.value, c.rank-rank.ensures.form.at_most_six),
)

pub loop-i-preserved : goal.loop-i-preserved
loop-i-preserved c =
    let value : c.entry.result ≡ entry c.args.cartan.now c.loop-i.i c.args.j =
    c.entry.ensures.value ∙ ap₂ (λ a b. entry c.args.cartan.now a b) (omega arith) (omega arith) in
    let within : IsWithin 32 c.entry.result =
    subst (λ z. IsWithin 32 z) (sym value)
    (entry_within c.args.cartan.now c.requires.form c.loop-i.i c.args.j (omega (arith, c.loop-i.invariant.2))
    c.requires.column) in
    let entry_fits : SFits w64 c.entry.result = omega (arith, ints) in
    let place_fits : SFits w16 (coordinates c.args.coroot.now c.loop-i.i) =
    omega (arith, ints, c.requires.small c.loop-i.i) in (
      sum_step _ _ _ _ _ c.loop-i.invariant.0
          (c.value_product-sum.ensures.value
          ∙ ap₂ (λ x y. x *ℤ y) (to_z-of_z w16 _ place_fits) (to_z-of_z w64 c.entry.result entry_fits ∙ value))
          (omega (arith, ints)),
      (omega (arith, ints), omega (arith, ints)),
      c.loop-i.invariant.2,
      c.loop-i.invariant.3,
    )

pub returns-clause-value : goal.returns-clause-value
returns-clause-value c =
    let all : c.loop-i.i ≡ c.args.cartan.now.rank = omega arith in
    column_is_pairing c.args.cartan.now c.args.j c.loop-i.i (coordinates c.args.coroot.now) _ c.requires.column all
    c.loop-i.invariant.0
