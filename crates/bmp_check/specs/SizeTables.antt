-- The sizes of a certificate's sheaf. In the order to read:
--   sum_above G x f           the sum of f y over the vertices y above x
--   AreSizesOf G m c t        t has the numbers of stalk and of boundary coordinates of the sheaf that c writes down,
--                             and of the sections that the blocks speak of
--   IsReady G v c t           c has lines of version v and the vertices of G, its last alone the longest, and t is its
--                             table
use Rattle.std.specs.Prelude.{◌≡◌, ℕ, ◌-◌, ◌≤◌, if◌then◌else◌, length}
use Rattle.bmp_math.specs.Sums.{sum_below}
use Rattle.bmp_graph.specs.Graph.{Graph, vertex_count}
use Rattle.bmp_sheaf.specs.Coordinates.{stalk_count, boundary_count}
use Rattle.bmp_sections.specs.Numbers.{is_above}
use Rattle.bmp_cover.specs.BradenMacPherson.{IsTopVertex}
use Rattle.bmp_cert.specs.Counts.{Written}
use Rattle.bmp_cert.specs.CertGrammar.{HavePartLines}
use Rattle.bmp_check.specs.declared.method.Method.{Method}
use Rattle.bmp_check.specs.Methods.{method_of}
use Rattle.bmp_check.specs.BlockData.{top_vertex}
use Rattle.bmp_check.specs.TupleCounts.{AreTupleCounts}
use Rattle.bmp_check.specs.PartsSheaf.{parts_sheaf}
use Rattle.bmp_check.specs.SizeLists.{AreSizes}
use Rattle.bmp_check.specs.declared.sizes.SizeTable.{SizeTable}

abbrev pub sum_above : Graph → ℕ → (ℕ → ℕ) → ℕ
sum_above G x f = sum_below (λ y. if is_above G x y then f y else 0) (vertex_count G)

pub record AreSizesOf (G : Graph) (m : Method) (c : Written) (t : SizeTable) : Type 0 where
  pub stalks : AreSizes t.stalks (vertex_count G) c.degree (λ x d. stalk_count G.rank ((parts_sheaf G c).degrees x) d)
  pub boundaries : AreSizes t.boundaries (vertex_count G) c.degree (λ x d. boundary_count G (parts_sheaf G c) x d)
  pub tuples : AreTupleCounts G m c t.tuples

-- what the pass over all sizes goes by
pub record IsReady (G : Graph) (v : ℕ) (c : Written) (t : SizeTable) : Type 0 where
  pub formed : HavePartLines v (G.prime - 1) c.degree c.parts
  pub vertices : length c.parts ≡ vertex_count G
  pub top : IsTopVertex G (top_vertex G)
  pub degree : c.degree ≤ 6
  pub of : AreSizesOf G (method_of v) c t
