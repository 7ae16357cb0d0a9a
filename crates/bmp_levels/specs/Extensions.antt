-- What an extension in memory is given, and what it gives, of a sheaf in memory. In the order to read:
--   IsFirst G k first                the vertices of length at least k are those from this number on
--   HasTop s                         the greatest vertex alone has the greatest length, and its stalk has one
--                                    generator, of degree 0
--   HoldsLevel s k d f               the family has the values of degree d at the vertices of length at least k, and at
--                                    no others
--   BlockFits s d count x block      the stalk at x is there, and the block has at most `count` covers, and these and
--                                    its basis fit the stalk
--   LevelFits s k d count has block  that is so of a block at each vertex of length k
--   AllFit s d has block             and of one at each vertex but the longest, for the families of these blocks
--   IsExtension s k d block f new    new is the extension of f by the blocks of the vertices of length k
--   KeepsBases G F k d block old new a list of sections, a spanning or an independent list goes on to one
use Rattle.std.specs.Prelude.{◌≡◌, ℕ, suc, ◌+◌, ◌-◌, ◌^◌, ◌<◌, ◌≤◌, [], ◌∷◌, Bool, IsTrue, All, length}
use Rattle.bmp_graph.specs.Graph.{Graph, vertex_count, length_at}
use Rattle.bmp_linear.specs.declared.blocks.DegreeBlock.{DegreeBlock}
use Rattle.bmp_linear.specs.SparseVectors.{FitsBelow}
use Rattle.bmp_sheaf.specs.Sheaves.{SheafData}
use Rattle.bmp_sheaf.specs.States.{SheafState, IsThere, sheaf_of}
use Rattle.bmp_sections.specs.TupleLists.{TupleList, tuples_in}
use Rattle.bmp_cover.specs.BradenMacPherson.{IsTopVertex}
use Rattle.bmp_levels.specs.Levels.{level, level_vertices}
use Rattle.bmp_levels.specs.Lists.{sized, SameList}
use Rattle.bmp_levels.specs.Families.{extended, stalk_size, member_count}
use Rattle.bmp_levels.specs.Bases.{AreSectionsOver, AreSpanning, AreIndependent}
use Rattle.bmp_levels.specs.Evidence.{ExtendsBy}
use Rattle.bmp_levels.specs.Runs.{FamilyTable, run_at, list_of}

pub record IsFirst (G : Graph) (k first : ℕ) : Type 0 where
  pub within : first ≤ vertex_count G
  pub shorter : (y : ℕ) → y < first → length_at G y < k
  pub longer : (y : ℕ) → first ≤ y → y < vertex_count G → k ≤ length_at G y

pub record HasTop {A : Type 0} (s : SheafState A) : Type 0 where
  pub is_top : IsTopVertex s.graph (vertex_count s.graph - 1)
  pub one : (sheaf_of s).degrees (vertex_count s.graph - 1) ≡ 0 ∷ []

pub record BlockFits {A : Type 0} (s : SheafState A) (d count x : ℕ) (block : DegreeBlock) : Type 0 where
  pub there : IsThere s x
  pub few : stalk_size s.graph (sheaf_of s) d x < 2 ^ 32
  pub covers : length block.cover.covers ≤ count
  pub covers_fit : All (λ v. FitsBelow v (stalk_size s.graph (sheaf_of s) d x)) block.cover.covers
  pub basis_fit : All (λ v. FitsBelow v (stalk_size s.graph (sheaf_of s) d x)) block.kernel.basis

module _ {A : Type 0} (s : SheafState A) (k d : ℕ) where
  pub record HoldsLevel (f : FamilyTable) : Type 0 where
    pub vertices : f.vertices ≡ vertex_count s.graph
    pub has : (y : ℕ) → level_vertices s.graph k y → vertex_count s.graph ≤ y + length f.runs
    pub only : (y : ℕ) → y < vertex_count s.graph → vertex_count s.graph ≤ y + length f.runs → k ≤ length_at s.graph y
    pub sizes : (y : ℕ) → level_vertices s.graph k y → (run_at f y).size ≡ stalk_size s.graph (sheaf_of s) d y

  abbrev pub LevelFits : ℕ → (ℕ → Bool) → (ℕ → DegreeBlock) → Type 0
  LevelFits count has block =
      (x : ℕ) → x < vertex_count s.graph → length_at s.graph x ≡ k → IsTrue (has x) × BlockFits s d count x (block x)

  abbrev pub IsExtension : (ℕ → DegreeBlock) → FamilyTable → FamilyTable → Type 0
  IsExtension block f new =
      SameList (level_vertices s.graph k) (list_of new)
      (sized (stalk_size s.graph (sheaf_of s) d) (extended s.graph k block (list_of f)))

-- the covers at x are of the members of the family over the longer vertices
abbrev pub AllFit : {A : Type 0} → SheafState A → ℕ → (ℕ → Bool) → (ℕ → DegreeBlock) → Type 0
AllFit s d has block =
    let top = vertex_count s.graph - 1 in
    (x : ℕ) → x < vertex_count s.graph → length_at s.graph x < length_at s.graph top →
    IsTrue (has x) × BlockFits s d (member_count s.graph d top block (suc (length_at s.graph x))) x
    (block x)

-- where these blocks pass
module _ (G : Graph) (F : SheafData) (k d : ℕ) (block : ℕ → DegreeBlock) (old new : TupleList) where
  pub record KeepsBases : Type 0 where
    pub sections :
        ExtendsBy G F k d block old →
        AreSectionsOver G F (level G (suc k)) d (tuples_in G F d old) old.count →
        AreSectionsOver G F (level G k) d (tuples_in G F d new) new.count
    pub spanning :
        ExtendsBy G F k d block old →
        AreSectionsOver G F (level G (suc k)) d (tuples_in G F d old) old.count →
        AreSpanning G F (level G (suc k)) d (tuples_in G F d old) old.count →
        AreSpanning G F (level G k) d (tuples_in G F d new) new.count
    pub independent :
        ExtendsBy G F k d block old →
        AreIndependent G F (level G (suc k)) d (tuples_in G F d old) old.count →
        AreIndependent G F (level G k) d (tuples_in G F d new) new.count
