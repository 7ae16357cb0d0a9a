-- Parts of the vertices of a moment graph that were built one by one, from the greatest down. In the order to read:
--   top_part                    the part of the greatest vertex: one generator, of degree 0
--   IsHeldList, IsHeldBlock, IsHeldPart
--                               what holds of vectors, of a block and of a part in memory by their types: fewer than
--                               2^32 members, and vectors whose places rise and whose numbers are not 0
--   IsBefore G c x s            the sheaf in memory has as many stalks as vertices have numbers above x; those of the
--                               vertices longer than x are the stalks of their parts, while others may be anything
--   HasFamilies G c x lists     the lists are, by degree, the families over the vertices longer than x
--   IsBuiltAt G c x             the part of x was built upon such a sheaf, for such lists, and has the shape of a part
--   AreBuilt G c                the parts are those of the vertices of the graph, the greatest is top_part, and each
--                               other was built
--   BuiltPartsPass              then they have lines, and no comparison fails
use Rattle.std.specs.Prelude.{◌≡◌, ℕ, suc, ◌+◌, ◌-◌, ◌^◌, ◌<◌, ◌≤◌, List, [], ◌∷◌, All, length}
use Rattle.bmp_graph.specs.Graph.{Graph, vertex_count, length_at}
use Rattle.bmp_linear.specs.declared.vector.Entry.{Entry}
use Rattle.bmp_linear.specs.declared.blocks.DegreeBlock.{DegreeBlock}
use Rattle.bmp_linear.specs.SparseVectors.{IsSparse}
use Rattle.bmp_sheaf.specs.States.{SheafState, stalk_of}
use Rattle.bmp_sections.specs.TupleLists.{TupleList}
use Rattle.bmp_levels.specs.Levels.{level_vertices}
use Rattle.bmp_levels.specs.Lists.{SameList}
use Rattle.bmp_cert.specs.declared.cert.VertexPart.{VertexPart}
use Rattle.bmp_cert.specs.Counts.{Written, part_of}
use Rattle.bmp_cert.specs.CertGrammar.{HavePartLines}
use Rattle.bmp_check.specs.Accepted.{IsCheckableGraph}
use Rattle.bmp_check.specs.BlockData.{family_at, top_vertex}
use Rattle.bmp_check.specs.Shaped.{cert_stalk}
use Rattle.bmp_check.specs.Verdicts.{Passes}
use Rattle.bmp_stalk.specs.BuiltParts.{IsBuiltPart}

abbrev pub top_part : VertexPart
top_part = record { degrees = 0 ∷ []; edges = 0; lifts = []; blocks = [] }

-- ---- what holds of each part in memory, by its types

pub record IsHeldList (vs : List (List Entry)) : Type 0 where
  pub few : length vs < 2 ^ 32
  pub sparse : All IsSparse vs
  pub short : All (λ v. length v < 2 ^ 32) vs

pub record IsHeldBlock (b : DegreeBlock) : Type 0 where
  pub few_pivots : length b.kernel.pivots < 2 ^ 32
  pub basis : IsHeldList b.kernel.basis
  pub rows : IsHeldList b.kernel.rows
  pub covers : IsHeldList b.cover.covers
  pub sources : IsHeldList b.cover.sources
  pub duals : IsHeldList b.cover.duals

pub record IsHeldPart (part : VertexPart) : Type 0 where
  pub few_degrees : length part.degrees < 2 ^ 32
  pub few_edges : part.edges < 2 ^ 32
  pub lifts : IsHeldList part.lifts
  pub blocks : All IsHeldBlock part.blocks

-- ---- how it was built

-- upon what the part of x was built: edges lead from x to longer vertices alone
pub record IsBefore (G : Graph) (c : Written) (x : ℕ) {A : Type 0} (s : SheafState A) : Type 0 where
  pub graph : s.graph ≡ G
  pub degree : s.degree ≡ c.degree
  pub pushed : length s.stalks ≡ top_vertex G - x
  pub longer :
      (y : ℕ) → y < vertex_count G → length_at G x < length_at G y → stalk_of s y ≡ cert_stalk (part_of c y)

abbrev pub HasFamilies : Graph → Written → ℕ → (ℕ → TupleList) → Type 0
HasFamilies G c x lists =
    (d : ℕ) → d ≤ c.degree → SameList (level_vertices G (suc (length_at G x))) (lists d) (family_at G c x d)

pub record IsBuiltAt (A : Type 0) (G : Graph) (c : Written) (x : ℕ) : Type 0 where
  pub old : SheafState A
  pub new : SheafState A
  pub lists : ℕ → TupleList
  pub before : IsBefore G c x old
  pub families : HasFamilies G c x lists
  pub built : IsBuiltPart old new lists (part_of c x)
  pub held : IsHeldPart (part_of c x)

pub record AreBuilt (A : Type 0) (G : Graph) (c : Written) : Type 0 where
  pub counted : length c.parts ≡ vertex_count G
  pub top : part_of c (top_vertex G) ≡ top_part
  pub others : (x : ℕ) → x + 1 < vertex_count G → IsBuiltAt A G c x

abbrev pub BuiltPartsPass : Type 0 → Type 0
BuiltPartsPass A =
    (G : Graph) (v : ℕ) (c : Written) → IsCheckableGraph G → c.degree ≤ 6 → (2 ≤ v) × (v ≤ 3) → AreBuilt A G c →
    HavePartLines v (G.prime - 1) c.degree c.parts × Passes G v c
