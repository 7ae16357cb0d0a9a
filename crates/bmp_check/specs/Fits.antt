-- What passed sizes give the checks above, with what the grammar gives. In the order to read:
--   IsVectorIn p n v       places that rise and are below n, and numbers below p other than 0
--   DegreesFit D es        degrees that never fall, at most D
--   VertexFits G c x       a part whose lifts are in the stalks at the upper ends of its edges
--   EvidenceIn p n t b     a block whose evidence is in the numbers n of rows, columns, sections and coordinates, with
--                          a source and a dual form for each of t generators
--   BlockFits G m c x d    the block of x and d is one
--   ShapesFit G m c        all of this, at each vertex and degree
--   ShapeGivesFits         so it is where all sizes pass
use Rattle.std.specs.Prelude.{◌≡◌, ℕ, ◌+◌, ◌-◌, ◌*◌, ◌/◌, ◌%◌, ◌^◌, ◌<◌, ◌≤◌, List, [], length, slice_index, slice_index_or, All}
use Rattle.std.specs.List.Sorted.{IsNonDecreasing}
use Rattle.bmp_graph.specs.Graph.{Graph, vertex_count, upper}
use Rattle.bmp_linear.specs.declared.vector.Entry.{Entry}
use Rattle.bmp_linear.specs.declared.blocks.DegreeBlock.{DegreeBlock}
use Rattle.bmp_linear.specs.SparseVectors.{IsSparse, FitsBelow, ValuesBelow}
use Rattle.bmp_linear.specs.Evidence.{EvidenceFits, EvidenceBelow}
use Rattle.bmp_sheaf.specs.Coordinates.{stalk_count}
use Rattle.bmp_sheaf.specs.Written.{first_edge, up_count}
use Rattle.bmp_cert.specs.Counts.{Written, part_of, generator_count}
use Rattle.bmp_cert.specs.CertGrammar.{HavePartLines}
use Rattle.bmp_check.specs.declared.sizes.BlockSizes.{BlockSizes}
use Rattle.bmp_check.specs.declared.method.Method.{Method}
use Rattle.bmp_check.specs.Methods.{method_of}
use Rattle.bmp_check.specs.BlockData.{block_of}
use Rattle.bmp_check.specs.Sizes.{counts_at, largest}
use Rattle.bmp_check.specs.Verdicts.{HasBlock, CountPasses, ShapePasses}

pub record IsVectorIn (p n : ℕ) (v : List Entry) : Type 0 where
  pub sparse : IsSparse v
  pub fits : FitsBelow v n
  pub below : ValuesBelow v p

pub record DegreesFit (D : ℕ) (es : List ℕ) : Type 0 where
  pub rising : IsNonDecreasing es
  pub most : All (λ e. e ≤ D) es

-- lifts stand by edge and then by generator
pub record VertexFits (G : Graph) (c : Written) (x : ℕ) : Type 0 where
  pub degrees : DegreesFit c.degree (part_of c x).degrees
  pub edges : (part_of c x).edges ≡ up_count G x
  pub lift_for_each : length (part_of c x).lifts ≡ up_count G x * length (part_of c x).degrees
  pub lifts : (i : ℕ) → i < length (part_of c x).lifts →
      let k = length (part_of c x).degrees in
      IsVectorIn G.prime
      (stalk_count G.rank (part_of c (upper G (first_edge G x + i / k))).degrees
      (slice_index (part_of c x).degrees (i % k)))
      (slice_index_or (part_of c x).lifts i [])

pub record EvidenceIn (p : ℕ) (n : BlockSizes) (t : ℕ) (b : DegreeBlock) : Type 0 where
  pub kernel : EvidenceFits b.kernel n.rows n.columns
  pub kernel_below : EvidenceBelow b.kernel p
  pub basis_sparse : All IsSparse b.kernel.basis
  pub rows_sparse : All IsSparse b.kernel.rows
  pub cover_for_each : length b.cover.covers ≡ n.tuples
  pub source_for_each : length b.cover.sources ≡ t
  pub dual_for_each : length b.cover.duals ≡ t
  pub covers : All (IsVectorIn p n.stalk) b.cover.covers
  pub sources : All (IsVectorIn p n.tuples) b.cover.sources
  pub duals : All (IsVectorIn p n.boundary) b.cover.duals
  pub few : largest n < 2 ^ 32

abbrev pub BlockFits : Graph → Method → Written → ℕ → ℕ → Type 0
BlockFits G m c x d = EvidenceIn G.prime (counts_at G m c x d) (generator_count c x d) (block_of c x d)

pub record ShapesFit (G : Graph) (m : Method) (c : Written) : Type 0 where
  pub top : DegreesFit c.degree (part_of c (vertex_count G - 1)).degrees
  pub vertices : (x : ℕ) → x + 1 < vertex_count G → VertexFits G c x
  pub there : (x d : ℕ) → HasBlock G c x d → d < length (part_of c x).blocks
  pub blocks : (x d : ℕ) → HasBlock G c x d → BlockFits G m c x d

abbrev pub ShapeGivesFits : Type 0
ShapeGivesFits = (G : Graph) (v : ℕ) (c : Written) → HavePartLines v (G.prime - 1) c.degree c.parts → CountPasses G c →
    ShapePasses G (method_of v) c → ShapesFit G (method_of v) c
