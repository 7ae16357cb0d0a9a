use Rattle.std.proofs.Common.{◌≡◌, ◌<◌, ◌/◌, ◌%◌, ℕ, None, length, get_or}
use Rattle.bmp_roots.specs.RootSystems.{matrix_of}
use Rattle.bmp_interval.specs.IntervalViews.{system_of, word_below, vertices_of}
use Rattle.bmp_kl.specs.VertexProducts.{IsProductAt}
use Rattle.bmp_kl.proofs.steps.vertex_products.Given as goal

abbrev pub invariant-loop-place : goal.invariant-loop-place
invariant-loop-place l =
    (length l.products.items ≡ l.place)
    × ((q : ℕ) → q < l.place → IsProductAt (matrix_of (system_of l.interval)) (word_below l.interval)
    (vertices_of l.interval) (q / 6) (q % 6) (get_or l.products.items q None))
