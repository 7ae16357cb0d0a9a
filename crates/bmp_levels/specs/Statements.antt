-- Laws of families by levels, as statements. In the order to read:
--   SectionsExtend                 where each section is lifted at all vertices longer than k, a section over the
--                                  vertices above x goes on to one over level k + 1
--   ExtensionKeepsSections         the extension of a list of sections over level k + 1 consists of sections over
--                                  level k
--   ExtensionKeepsSpanning         if each section over level k + 1 is a combination of the list, so it is over level
--                                  k of the extension
--   ExtensionKeepsIndependence     and an independent list has an independent extension
--   TopFamilyIsBasis               the first family is a basis of the sections over the one longest vertex
--   PassedByLevelsIsBradenMacPherson, PassedByLevelsCountsAreDimensions, PassedByLevelsFamiliesAreBases
--                                  what passed evidence by levels says
--   FamiliesAreCounted             the number of members of each family
--   FirstMembersAreFamily          over a higher level the first members are the family of that level
--   BlocksAreBelow G top block     the numbers of the blocks of all vertices shorter than the top are below the prime
--   FamiliesAreBelow               so are the values of the families then
--   FamiliesGoOn                   what extends a family is the family of the next level
--   BasesCarry                     lists with the same values over a level are bases there together
--   ComparisonsAgree               lists with the same values above a vertex make the same comparisons there
use Rattle.std.specs.Prelude.{◌≡◌, ◌↔◌, ℕ, suc, ◌<◌, ◌≤◌, [], ◌∷◌, All}
use Rattle.bmp_graph.specs.Graph.{Graph, IsGraph, IsAbove, vertex_count, length_at}
use Rattle.bmp_linear.specs.declared.blocks.DegreeBlock.{DegreeBlock}
use Rattle.bmp_linear.specs.declared.evidence.CoverEvidence.{CoverEvidence}
use Rattle.bmp_linear.specs.SparseVectors.{ValuesBelow}
use Rattle.bmp_sheaf.specs.Fields.{IsOverField}
use Rattle.bmp_sheaf.specs.Sheaves.{SheafData, Tuple}
use Rattle.bmp_sections.specs.Sections.{IsSection, IsLifted, above}
use Rattle.bmp_sections.specs.TupleLists.{TupleList, tuples_in}
use Rattle.bmp_cover.specs.BradenMacPherson.{IsTopVertex, IsBradenMacPherson}
use Rattle.bmp_cover.specs.Counts.{CountsAreDimensions}
use Rattle.bmp_cover.specs.CoverChecks.{CoverCompares}
use Rattle.bmp_cover.specs.declared.fault.CoverFault.{CoverFault}
use Rattle.bmp_levels.specs.Levels.{level, level_vertices, Continues}
use Rattle.bmp_levels.specs.Lists.{first_members, sized, SameList}
use Rattle.bmp_levels.specs.Families.{extended, stalk_size, top_family, family, member_count}
use Rattle.bmp_levels.specs.Bases.{AreSectionsOver, AreSpanning, AreIndependent, IsBasis}
use Rattle.bmp_levels.specs.Evidence.{ExtendsBy, PassesByLevels}

abbrev pub SectionsExtend : Type 0
SectionsExtend =
    (G : Graph) (F : SheafData) (x k d : ℕ) → IsGraph G →
    ((y : ℕ) → y < vertex_count G → k < length_at G y → IsLifted G F y d) →
    (s : Tuple) → IsSection G F (above G x) d s → (t : Tuple) × Continues G F x (suc k) d s t

module _ (Keeps : (G : Graph) → SheafData → (ℕ → Type 0) → ℕ → TupleList → Type 0) where
  abbrev ExtensionKeeps : Type 0
  ExtensionKeeps =
      (G : Graph) (F : SheafData) (k d : ℕ) (block : ℕ → DegreeBlock) (list : TupleList) →
      ExtendsBy G F k d block list →
      Keeps G F (level G (suc k)) d list → Keeps G F (level G k) d (extended G k block list)

abbrev pub ExtensionKeepsSections : Type 0
ExtensionKeepsSections = ExtensionKeeps (λ G F U d list. AreSectionsOver G F U d (tuples_in G F d list) list.count)

-- the combination of the old members is to be a section, so that the members are to be sections too
abbrev pub ExtensionKeepsSpanning : Type 0
ExtensionKeepsSpanning =
    (G : Graph) (F : SheafData) (k d : ℕ) (block : ℕ → DegreeBlock) (list : TupleList) → ExtendsBy G F k d block list →
    AreSectionsOver G F (level G (suc k)) d (tuples_in G F d list) list.count →
    AreSpanning G F (level G (suc k)) d (tuples_in G F d list) list.count →
    AreSpanning G F (level G k) d (tuples_in G F d (extended G k block list)) (extended G k block list).count

abbrev pub ExtensionKeepsIndependence : Type 0
ExtensionKeepsIndependence = ExtensionKeeps (λ G F U d list. AreIndependent G F U d (tuples_in G F d list) list.count)

abbrev pub TopFamilyIsBasis : Type 0
TopFamilyIsBasis =
    (G : Graph) (F : SheafData) (d top : ℕ) → IsOverField G → G.rank ≤ 6 → IsTopVertex G top → F.degrees top ≡ 0 ∷ [] →
    IsBasis G F (level G (length_at G top)) d (top_family G F d top)

abbrev pub PassedByLevelsIsBradenMacPherson : Type 0
PassedByLevelsIsBradenMacPherson =
    (G : Graph) (F : SheafData) (most top : ℕ) (blocks : ℕ → ℕ → DegreeBlock) →
    IsOverField G → G.rank ≤ 6 → IsTopVertex G top → PassesByLevels G F most top blocks →
    IsBradenMacPherson G F most top

abbrev pub PassedByLevelsCountsAreDimensions : Type 0
PassedByLevelsCountsAreDimensions =
    (G : Graph) (F : SheafData) (most top : ℕ) (blocks : ℕ → ℕ → DegreeBlock) →
    IsOverField G → G.rank ≤ 6 → IsTopVertex G top → PassesByLevels G F most top blocks →
    CountsAreDimensions G F most top

-- so that the number of members is the dimension of the sections of each degree
abbrev pub PassedByLevelsFamiliesAreBases : Type 0
PassedByLevelsFamiliesAreBases =
    (G : Graph) (F : SheafData) (most top : ℕ) (blocks : ℕ → ℕ → DegreeBlock) →
    IsOverField G → G.rank ≤ 6 → IsTopVertex G top → PassesByLevels G F most top blocks →
    (k d : ℕ) → k ≤ length_at G top → d ≤ most →
    IsBasis G F (level G k) d (family G F d top (λ x. blocks x d) k)

module _ (G : Graph) (F : SheafData) (d top : ℕ) (block : ℕ → DegreeBlock) where
  abbrev IsCounted : Type 0
  IsCounted =
      (k : ℕ) → k ≤ length_at G top → (family G F d top block k).count ≡ member_count G d top block k

  -- so that the family over all vertices has each of the others as a prefix
  abbrev HasPrefixes : Type 0
  HasPrefixes =
      (k l : ℕ) → k ≤ l → l ≤ length_at G top →
      ((family G F d top block l).count ≤ (family G F d top block k).count)
      × SameList (level_vertices G l) (first_members (family G F d top block l).count (family G F d top block k))
      (family G F d top block l)

  -- for lists that have the values of families, as those in memory; an extension looks at the blocks of its own level
  abbrev GoesOn : Type 0
  GoesOn =
      (k : ℕ) (own : ℕ → DegreeBlock) (f a : TupleList) → k < length_at G top →
      ((x : ℕ) → x < vertex_count G → length_at G x ≡ k → own x ≡ block x) →
      SameList (level_vertices G (suc k)) a (family G F d top block (suc k)) →
      SameList (level_vertices G k) f (sized (stalk_size G F d) (extended G k own a)) →
      SameList (level_vertices G k) f (family G F d top block k)

abbrev pub FamiliesAreCounted : Type 0
FamiliesAreCounted = (G : Graph) (F : SheafData) (d top : ℕ) (block : ℕ → DegreeBlock) → IsCounted G F d top block

abbrev pub FirstMembersAreFamily : Type 0
FirstMembersAreFamily = (G : Graph) (F : SheafData) (d top : ℕ) (block : ℕ → DegreeBlock) → HasPrefixes G F d top block

pub record BlocksAreBelow (G : Graph) (top : ℕ) (block : ℕ → DegreeBlock) : Type 0 where
  pub basis :
      (x : ℕ) → x < vertex_count G → length_at G x < length_at G top →
      All (λ v. ValuesBelow v G.prime) (block x).kernel.basis
  pub covers :
      (x : ℕ) → x < vertex_count G → length_at G x < length_at G top →
      All (λ v. ValuesBelow v G.prime) (block x).cover.covers

abbrev pub FamiliesAreBelow : Type 0
FamiliesAreBelow =
    (G : Graph) (F : SheafData) (d top : ℕ) (block : ℕ → DegreeBlock) → 2 ≤ G.prime → BlocksAreBelow G top block →
    (k j y c : ℕ) → y < vertex_count G → (family G F d top block k).value j y c < G.prime

abbrev pub FamiliesGoOn : Type 0
FamiliesGoOn = (G : Graph) (F : SheafData) (d top : ℕ) (block : ℕ → DegreeBlock) → GoesOn G F d top block

abbrev pub BasesCarry : Type 0
BasesCarry =
    (G : Graph) (F : SheafData) (k d : ℕ) (a b : TupleList) → IsOverField G → G.rank ≤ 6 →
    SameList (level_vertices G k) a b →
    ((y : ℕ) → level_vertices G k y → b.size y ≡ stalk_size G F d y) →
    IsBasis G F (level G k) d a ↔ IsBasis G F (level G k) d b

-- so that what was compared with a list in memory was compared with the family whose values it has
abbrev pub ComparisonsAgree : Type 0
ComparisonsAgree =
    (G : Graph) (F : SheafData) (x d : ℕ) (a b : TupleList) (e : CoverEvidence) → IsOverField G → G.rank ≤ 6 →
    SameList (above G x) a b → ((y : ℕ) → IsAbove G y x → b.size y ≡ stalk_size G F d y) →
    (r : CoverFault) → CoverCompares G F x d a e r ↔ CoverCompares G F x d b e r
