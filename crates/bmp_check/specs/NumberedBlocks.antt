-- The blocks of shaped parts by number. In the order to read:
--   HasNumbered s i       there is a block number i
--   PassesAt s i          no comparison of the block number i fails
--   IsRefusalAt s i r     r is the first of its comparisons that fails
use Rattle.std.specs.Prelude.{ℕ, ◌<◌}
use Rattle.bmp_graph.specs.Graph.{vertex_count}
use Rattle.bmp_check.specs.declared.refusal.Refusal.{Refusal}
use Rattle.bmp_check.specs.declared.shaped.Shaped.{Shaped}
use Rattle.bmp_check.specs.BlockOrder.{block_count, block_vertex, block_degree}
use Rattle.bmp_check.specs.ShapedViews.{graph_in, method_at, cert_in}
use Rattle.bmp_check.specs.Verdicts.{BlockPasses, IsBlockRefusal}

module _ (s : Shaped) (i : ℕ) where
  abbrev pub HasNumbered : Type 0
  HasNumbered = i < block_count (vertex_count (graph_in s)) (cert_in s).degree

  abbrev vertex : ℕ
  vertex = block_vertex (vertex_count (graph_in s)) (cert_in s).degree i

  abbrev degree : ℕ
  degree = block_degree (cert_in s).degree i

  abbrev pub PassesAt : Type 0
  PassesAt = BlockPasses (graph_in s) (method_at s) (cert_in s) vertex degree

  abbrev pub IsRefusalAt : Refusal → Type 0
  IsRefusalAt r = IsBlockRefusal (graph_in s) (method_at s) (cert_in s) vertex degree r
