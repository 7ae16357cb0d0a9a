-- How many sections the cover evidence of each block is about, from the text. In the order to read:
--   tuple_count G m c x d         those of the block's kernel evidence by whole spaces; by levels one for each
--                                 monomial, and one for each basis vector of a longer vertex but the greatest
--   CountsDegree G m c d ns       the list has these numbers of degree d, by vertex
--   HasTupleCounts G m c D ns     the list has those of the degrees below D, one behind the other
--   AreTupleCounts G m c t        t has those of all degrees
use Rattle.std.specs.Prelude.{◌≡◌, ℕ, suc, ◌+◌, ◌*◌, ◌<◌, List, length, slice_index}
use Rattle.bmp_graph.specs.Graph.{Graph, vertex_count, length_at}
use Rattle.bmp_levels.specs.Families.{member_count}
use Rattle.bmp_cert.specs.Counts.{Written}
use Rattle.bmp_check.specs.declared.method.Method.{Method}
use Rattle.bmp_check.specs.declared.method.Method.TheVariants.{Spaces, Levels}
use Rattle.bmp_check.specs.declared.tuple_counts.TupleCounts.{TupleCounts}
use Rattle.bmp_check.specs.BlockData.{block_of, top_vertex}

abbrev pub tuple_count : Graph → Method → Written → ℕ → ℕ → ℕ
tuple_count G Spaces c x d = length (block_of c x d).kernel.basis
tuple_count G Levels c x d = member_count G d (top_vertex G) (λ y. block_of c y d) (suc (length_at G x))

module _ (G : Graph) (m : Method) (c : Written) where
  pub record CountsDegree (d : ℕ) (numbers : List ℕ) : Type 0 where
    pub sized : length numbers ≡ vertex_count G
    pub each : (x : ℕ) → x < vertex_count G → slice_index numbers x ≡ tuple_count G m c x d

  pub record HasTupleCounts (D : ℕ) (numbers : List ℕ) : Type 0 where
    pub sized : length numbers ≡ D * vertex_count G
    pub each : (x d : ℕ) → x < vertex_count G → d < D → slice_index numbers (d * vertex_count G + x)
        ≡ tuple_count G m c x d

  pub record AreTupleCounts (t : TupleCounts) : Type 0 where
    pub vertices : t.vertices ≡ vertex_count G
    pub numbers : HasTupleCounts (c.degree + 1) t.numbers.items
