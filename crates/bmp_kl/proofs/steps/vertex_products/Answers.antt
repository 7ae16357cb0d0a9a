use Rattle.std.proofs.Common.{◌≡◌, ◌+◌, ◌*◌, ◌/◌, ◌%◌, None, arith, ap, subst, length, length-append, get_or, ◌∷◌, []}
use Rattle.bmp_roots.specs.RootSystems.{matrix_of}
use Rattle.bmp_interval.specs.IntervalViews.{system_of, word_below, vertices_of}
use Rattle.bmp_kl.specs.VertexProducts.{IsProductAt, partner}
use Rattle.bmp_kl.proofs.StepLemmas.{listed_more, product_placed}
use Rattle.bmp_kl.proofs.steps.vertex_products.Goals as goal

pub loop-place-preserved : goal.loop-place-preserved
loop-place-preserved c = (
  omega (
    arith,
    ap length c.in_ok-push.ensures.items,
    length-append c.loop-place.products.items (c.product_number.result ∷ []),
  ),
  listed_more (λ q p. IsProductAt (matrix_of (system_of c.args.interval.now)) (word_below c.args.interval.now)
      (vertices_of c.args.interval.now) (q / 6) (q % 6) p)
      c.loop-place.place c.loop-place.products.items _ c.product_number.result None c.loop-place.invariant.0
      c.in_ok-push.ensures.items
      c.loop-place.invariant.1 c.product_number.ensures,
)

pub returns-clause-products : goal.returns-clause-products
returns-clause-products c x k inside below =
    product_placed (matrix_of (system_of c.args.interval.now)) (word_below c.args.interval.now)
    (vertices_of c.args.interval.now)
    c.loop-place.products.items x k below (c.loop-place.invariant.1 (x * 6 + k) (omega (arith, c.len.ensures.value)))
