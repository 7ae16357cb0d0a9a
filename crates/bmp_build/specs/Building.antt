-- What is built on the way down a moment graph, level by level. In the order to read:
--   Continues G D parts c       c has the degree bound D and a part for each vertex of G, and begins with these parts
--   IsBuiltIn A G D parts x       the part of x was built, whatever parts come behind these
--   HoldsFamily .. s d f        f is, in memory, the family of degree d over a level, whatever parts come behind these
--   IsBuiltDown G D level low s parts members
--                               the parts of the vertices of length at least `level` are there, and of others of length
--                               at least `low` alone; s is the sheaf that they write down, and the members are the
--                               families over the level
--   last_length G parts         the length of the last vertex whose part is there
--   IsLevelThere G k parts      the parts of all vertices of length at least k are there
--   AreCounts families counts   the numbers of members
--   has_block, block_at b x     the block of a vertex whose part is there
--   IsBegun G D s               s has the stalk of the greatest vertex alone
--   IsTopFamily s d f           f is the family of degree d over the greatest vertex
--   HasEach P n fs              there are n families, and of each degree one with P
use Rattle.std.specs.Prelude.{◌≡◌, ℕ, ◌+◌, ◌-◌, ◌<◌, ◌≤◌, nat_lt, Bool, ◌&&◌, List, [], ◌∷◌, length, map, take, slice_index, slice_index_or}
use Rattle.bmp_graph.specs.Graph.{Graph, vertex_count, length_at}
use Rattle.bmp_linear.specs.declared.blocks.DegreeBlock.{DegreeBlock}
use Rattle.bmp_sheaf.specs.States.{SheafState, sheaf_of}
use Rattle.bmp_levels.specs.Extensions.{HoldsLevel}
use Rattle.bmp_levels.specs.Families.{top_family, family}
use Rattle.bmp_levels.specs.Levels.{level_vertices}
use Rattle.bmp_levels.specs.Lists.{SameList}
use Rattle.bmp_levels.specs.Runs.{FamilyTable, list_of}
use Rattle.bmp_cert.specs.declared.cert.VertexPart.{VertexPart}
use Rattle.bmp_cert.specs.Counts.{Written, no_part}
use Rattle.bmp_check.specs.BlockData.{no_block, block_of, top_vertex}
use Rattle.bmp_check.specs.PartsSheaf.{parts_sheaf}
use Rattle.bmp_check.specs.Shaped.{cert_stalk}
use Rattle.bmp_stalk.specs.BuiltParts.{no_family}
use Rattle.bmp_build.specs.BuiltGraphs.{top_part, IsBuiltAt}
use Rattle.bmp_build.specs.declared.level_parts.LevelParts.{LevelParts}

pub record Continues (G : Graph) (D : ℕ) (parts : List VertexPart) (c : Written) : Type 0 where
  pub degree : c.degree ≡ D
  pub counted : length c.parts ≡ vertex_count G
  pub begins : take (length parts) c.parts ≡ parts

pub record IsBuiltIn (A : Type 0) (G : Graph) (D : ℕ) (parts : List VertexPart) (x : ℕ) : Type 0 where
  pub built : (c : Written) → Continues G D parts c → IsBuiltAt A G c x

pub record HoldsFamily (G : Graph) (D level : ℕ) (parts : List VertexPart) {A : Type 0} (s : SheafState A) (d : ℕ)
    (f : FamilyTable) : Type 0 where
  pub holds : HoldsLevel s level d f
  pub same :
      (c : Written) → Continues G D parts c →
      SameList (level_vertices G level) (list_of f)
      (family G (parts_sheaf G c) d (top_vertex G) (λ y. block_of c y d) level)

pub record IsBuiltDown (G : Graph) (D level low : ℕ) {A : Type 0} (s : SheafState A) (parts : List VertexPart)
    (members : List FamilyTable) : Type 0 where
  pub graph : s.graph ≡ G
  pub degree : s.degree ≡ D
  pub stalks : s.stalks ≡ map cert_stalk parts
  pub some : 1 ≤ length parts
  pub few : length parts ≤ vertex_count G
  pub top : slice_index_or parts 0 no_part ≡ top_part
  pub there : (y : ℕ) → y < vertex_count G → level ≤ length_at G y → vertex_count G ≤ y + length parts
  pub only : (y : ℕ) → y < vertex_count G → vertex_count G ≤ y + length parts → low ≤ length_at G y
  pub vertices : (x : ℕ) → x + 1 < vertex_count G → vertex_count G ≤ x + length parts → IsBuiltIn A G D parts x
  pub sized : length members ≡ D + 1
  pub families :
      (d : ℕ) → d ≤ D → HoldsFamily G D level parts s d (slice_index_or members d no_family)

abbrev pub last_length : Graph → List VertexPart → ℕ
last_length G parts = length_at G (vertex_count G - length parts)

pub record IsLevelThere (G : Graph) (k : ℕ) (parts : List VertexPart) : Type 0 where
  pub there : (y : ℕ) → y < vertex_count G → k ≤ length_at G y → vertex_count G ≤ y + length parts

pub record AreCounts (families : List FamilyTable) (counts : List ℕ) : Type 0 where
  pub sized : length counts ≡ length families
  pub each :
      (d : ℕ) → d < length families → slice_index counts d ≡ (slice_index_or families d no_family).count

module _ (b : LevelParts) (x : ℕ) where
  abbrev own : VertexPart
  own = slice_index_or b.parts.now (b.vertices - 1 - x) no_part

  abbrev pub has_block : Bool
  has_block =
      nat_lt x b.vertices
      && (nat_lt (b.vertices - 1 - x) (length b.parts.now) && nat_lt b.degree (length own.blocks))

  abbrev pub block_at : DegreeBlock
  block_at = slice_index_or own.blocks b.degree no_block

pub record IsBegun (G : Graph) (D : ℕ) {A : Type 0} (s : SheafState A) : Type 0 where
  pub graph : s.graph ≡ G
  pub degree : s.degree ≡ D
  pub stalks : s.stalks ≡ cert_stalk top_part ∷ []

pub record IsTopFamily {A : Type 0} (s : SheafState A) (d : ℕ) (f : FamilyTable) : Type 0 where
  pub holds : HoldsLevel s (length_at s.graph (top_vertex s.graph)) d f
  pub same :
      SameList (level_vertices s.graph (length_at s.graph (top_vertex s.graph))) (list_of f)
      (top_family s.graph (sheaf_of s) d (top_vertex s.graph))

pub record HasEach (P : ℕ → FamilyTable → Type 0) (n : ℕ) (fs : List FamilyTable) : Type 0 where
  pub sized : length fs ≡ n
  pub each : (d : ℕ) → d < n → P d (slice_index_or fs d no_family)
