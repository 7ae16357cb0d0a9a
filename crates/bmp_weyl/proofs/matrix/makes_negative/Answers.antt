use Rattle.std.proofs.Common.{arith, refl}
use Rattle.std.proofs.lemmas.Int.{ints}
use Rattle.bmp_roots.specs.Pairs.{coordinates}
use Rattle.bmp_roots.proofs.SignLemmas.{place_negative, all_not_negative}
use Rattle.bmp_weyl.specs.Matrices.{image}
use Rattle.bmp_weyl.proofs.matrix.makes_negative.Goals as goal

pub returns-then-image_entry-lt0 : goal.returns-then-image_entry-lt0
returns-then-image_entry-lt0 c = (
  (λ t. place_negative c.args.rank (image c.args.entries.now (coordinates c.args.v.now)) c.loop-i.i
      c.loop-i-test.true (omega (arith, ints))),
  (λ t. refl),
)

pub returns : goal.returns
returns c = (
  (λ t. cc),
  (λ t. absurd
      (all_not_negative c.args.rank (image c.args.entries.now (coordinates c.args.v.now))
      (λ i l. c.loop-i.invariant i (omega arith)) t)),
)
