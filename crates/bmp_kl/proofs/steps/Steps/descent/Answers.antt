use Rattle.std.proofs.Common.{◌≡◌, ◌+◌, ◌*◌, ◌∙◌, arith, sym, Some, None}
use Rattle.bmp_kl.specs.VertexProducts.{partner}
use Rattle.bmp_kl.proofs.RowLemmas.{read}
use Rattle.bmp_kl.proofs.steps.Steps.descent.Goals as goal

pub returns-then-below-y-clause-some : goal.returns-then-below-y-clause-some
returns-then-below-y-clause-some c = record {
  letter = omega arith;
  product = sym (read c.args.self.now.products.items (c.args.y * 6 + c.loop-k.k) _ None c.index.ensures
      (omega (arith, c.requires.places, c.requires.rank, c.requires.vertex))) ∙ c.in-Some.is;
  lower = c.if-below-y.true;
  first = λ k z before e. c.loop-k.invariant k z before e;
}
