use Rattle.std.proofs.Common.{◌≡◌, ◌∙◌, ap, ap₂, sym, arith, ◌*ℤ◌}
use Rattle.std.proofs.lemmas.Int.{ints, to_z-of_z}
use mir.Syntax.{w8}
use mir.Val.{SFits}
use Rattle.bmp_math.specs.Integers.{IsWithin}
use Rattle.bmp_math.specs.IntegerSums.{integer_sum}
use Rattle.bmp_math.proofs.IntegerSumLemmas.{integer_sum-zero, sum_step}
use Rattle.bmp_weyl.specs.Matrices.{cell}
use Rattle.bmp_weyl.proofs.matrix.product_entry.Goals as goal

pub loop-l-init : goal.loop-l-init
loop-l-init c = (sym (integer_sum-zero _), (omega (arith, ints), omega (arith, ints)))

pub loop-l-preserved : goal.loop-l-preserved
loop-l-preserved c =
    let first : IsWithin 32 (cell c.args.x.now c.args.i c.loop-l.l) =
    c.requires.x c.args.i c.loop-l.l c.requires.row c.loop-l-test.true in
    let second : IsWithin 32 (cell c.args.y.now c.loop-l.l c.args.j) =
    c.requires.y c.loop-l.l c.args.j c.loop-l-test.true c.requires.column in
    let first_fits : SFits w8 (cell c.args.x.now c.args.i c.loop-l.l) = omega (arith, ints) in
    let second_fits : SFits w8 (cell c.args.y.now c.loop-l.l c.args.j) = omega (arith, ints) in (
      sum_step _ _ _ _ _ c.loop-l.invariant.0
          (c.entry_product-sum.ensures.value
          ∙ ap₂ (λ x y. x *ℤ y) (to_z-of_z w8 _ first_fits) (to_z-of_z w8 _ second_fits))
          (omega (arith, ints)),
      (omega (arith, ints), omega (arith, ints)),
    )

pub returns : goal.returns
returns c =
    let all : c.loop-l.l ≡ 6 = omega arith in
    c.loop-l.invariant.0 ∙ ap (λ n. integer_sum (λ k. cell c.args.x.now c.args.i k *ℤ cell c.args.y.now k c.args.j) n)
    all
