use Rattle.std.proofs.Common.{◌-◌, length, take, get_or, arith, ap, sym, subst, below_more}
use Rattle.std.proofs.lemmas.List.{length-map, take_all}
use Rattle.std.proofs.lemmas.List.Elements.{All-from_get_or}
use Rattle.bmp_roots.specs.RootSystems.{matrix_of, positive_roots_of}
use Rattle.bmp_weyl.specs.Elements.{IsProduct, word_of, IsLetter}
use Rattle.bmp_weyl.proofs.LengthLemmas.{length_at_most}
use Rattle.bmp_weyl.proofs.ElementLemmas.{element_length-product}
use Rattle.bmp_weyl.proofs.CallLemmas.{root_system, word_more}
use Rattle.bmp_weyl.proofs.word.product.Goals as goal

pub mul-product-requires : goal.mul-product-requires
mul-product-requires c = record {
  matrix = matrix_of c.args.roots.now;
  form = (root_system c.args.roots.now).form;
  finite = (root_system c.args.roots.now).finite;
  first = (_, c.loop-place.invariant.0);
  second = (_, c.simple.ensures);
}

pub loop-place-preserved : goal.loop-place-preserved
loop-place-preserved c = (
  subst (λ w. IsProduct (matrix_of c.args.roots.now) w c.mul-product.result)
      (sym (word_more c.args.word.now c.loop-place.place c.loop-place-test.true))
      (c.mul-product.ensures.product (matrix_of c.args.roots.now) (word_of (take c.loop-place.place c.args.word.now)) _
      (root_system c.args.roots.now).form c.loop-place.invariant.0 c.simple.ensures),
  below_more (λ i. IsLetter (matrix_of c.args.roots.now).rank (get_or c.args.word.now i 0)) c.loop-place.place
      c.loop-place.invariant.1
      (c.if-letter-lt1.false, omega (arith, c.loop-place.invariant.2)),
  c.loop-place.invariant.2,
)

pub returns-clause-letters : goal.returns-clause-letters
returns-clause-letters c =
    All-from_get_or (IsLetter (matrix_of c.args.roots.now).rank) c.args.word.now 0
    (λ i l. c.loop-place.invariant.1 i (omega arith))

pub returns-clause-at_most : goal.returns-clause-at_most
returns-clause-at_most c =
    omega (
      arith,
      element_length-product (matrix_of c.args.roots.now) (positive_roots_of c.args.roots.now)
          (root_system c.args.roots.now) (word_of (take c.loop-place.place c.args.word.now)) c.loop-place.product
          c.loop-place.invariant.0,
      length_at_most (matrix_of c.args.roots.now) (positive_roots_of c.args.roots.now) (root_system c.args.roots.now)
          (word_of (take c.loop-place.place c.args.word.now)) c.loop-place.invariant.0.letters,
      length-map (take c.loop-place.place c.args.word.now) (λ letter. letter - 1),
      ap length (take_all c.loop-place.place c.args.word.now (omega arith)),
    )
