-- Blocks of shaped parts by number: that all pass, and that one is the first that doesn't.
use Rattle.std.proofs.Common.{◌≡◌, ℕ, ◌<◌, ◌≤◌, refl, ap, ap₂, subst, ◌∙◌}
use Rattle.bmp_graph.specs.Graph.{Graph, vertex_count}
use Rattle.bmp_cert.specs.Counts.{Written}
use Rattle.bmp_check.specs.declared.given.Given.{Given}
use Rattle.bmp_check.specs.declared.method.Method.{Method}
use Rattle.bmp_check.specs.declared.refusal.Refusal.{Refusal}
use Rattle.bmp_check.specs.declared.shaped.Shaped.{Shaped}
use Rattle.bmp_check.specs.BlockOrder.{block_count, block_vertex, block_degree}
use Rattle.bmp_check.specs.NumberedBlocks.{HasNumbered, PassesAt, IsRefusalAt}
use Rattle.bmp_check.specs.ShapedViews.{graph_in, method_at, cert_in}
use Rattle.bmp_check.specs.Verdicts.{BlockPasses, BlocksPass, IsFirstBlockRefusal}
use Rattle.bmp_check.proofs.BlockLemmas.{blocks_all, blocks_here, blocks_earlier}

-- the number of blocks as it is computed
pub counted_blocks :
    {s t : Shaped} {G : Graph} {g : Given} {n i : ℕ} → s ≡ t → G ≡ graph_in s → g ≡ s.given → n ≡ vertex_count G →
    i ≡ block_count n g.degree →
    i ≡ block_count (vertex_count (graph_in t)) (cert_in t).degree
counted_blocks same graph given vertices counted =
    counted
    ∙ ap₂ (λ (a b : ℕ). block_count a b) (vertices ∙ ap (λ (H : Graph). vertex_count H) graph)
    (ap (λ (e : Given). e.degree) given)
    ∙ ap (λ (u : Shaped). block_count (vertex_count (graph_in u)) (cert_in u).degree) same

-- the block of a number as it is read: u are the parts, of so many vertices and degrees, and x and d those of the block
module _
    {s u : Shaped} {n D x d : ℕ} (i : ℕ) (same : u ≡ s) (vertices : n ≡ vertex_count (graph_in u))
    (degree : D ≡ (cert_in u).degree)
    (x_is : x ≡ block_vertex n D i) (d_is : d ≡ block_degree D i) where
  pub at_number :
      (P : Graph → Method → Written → ℕ → ℕ → Type 0) → P (graph_in u) (method_at u) (cert_in u) x d →
      P (graph_in s) (method_at s) (cert_in s) (block_vertex (vertex_count (graph_in s)) (cert_in s).degree i)
      (block_degree (cert_in s).degree i)
  at_number P h =
      subst (λ (w : Shaped). P (graph_in w) (method_at w) (cert_in w)
      (block_vertex (vertex_count (graph_in w)) (cert_in w).degree i) (block_degree (cert_in w).degree i)) same
      (subst (λ k. P (graph_in u) (method_at u) (cert_in u) (block_vertex k (cert_in u).degree i)
      (block_degree (cert_in u).degree i)) vertices
      (subst (λ E. P (graph_in u) (method_at u) (cert_in u) (block_vertex n E i) (block_degree E i)) degree
      (subst (λ e. P (graph_in u) (method_at u) (cert_in u) (block_vertex n D i) e) d_is
      (subst (λ y. P (graph_in u) (method_at u) (cert_in u) y d) x_is h))))

module _ (s : Shaped) where
  abbrev n : ℕ
  n = vertex_count (graph_in s)

  abbrev D : ℕ
  D = (cert_in s).degree

  abbrev Passing : ℕ → ℕ → Type 0
  Passing = BlockPasses (graph_in s) (method_at s) (cert_in s)

  pub all_blocks : (i : ℕ) → block_count n D ≤ i → ((k : ℕ) → k < i → PassesAt s k) →
      BlocksPass (graph_in s) (method_at s) (cert_in s)
  all_blocks i past holds = blocks_all (graph_in s) (cert_in s) Passing n D i refl refl holds past

  pub first_block :
      (i : ℕ) → HasNumbered s i → ((k : ℕ) → k < i → PassesAt s k) → (r : Refusal) → IsRefusalAt s i r →
      IsFirstBlockRefusal (graph_in s) (method_at s) (cert_in s) r
  first_block i below holds r refused = record {
    vertex = block_vertex n D i;
    degree = block_degree D i;
    block = blocks_here (graph_in s) (cert_in s) Passing n D i refl refl holds (block_vertex n D i) (block_degree D i)
        below refl refl;
    earlier = blocks_earlier (graph_in s) (cert_in s) Passing n D i refl refl holds (block_vertex n D i)
        (block_degree D i) below refl refl;
    first = refused;
  }
