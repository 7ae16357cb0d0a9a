-- What is built at the next vertex of a sheaf in memory from lists of tuples, one a degree: a stalk, and evidence by
-- levels for which every comparison holds. In the order to read:
--   no_family, no_block             what stands past the ends of lists
--   list_at families counts d       the first so many members of the family of degree d
--   HaveMembers s families counts   there are as many, with values at the vertices above the next one
--   IsBuiltBlock s x d list b       in the sheaf s, which has a stalk at x, the kernel evidence of b for the boundary
--                                   map at x passes, and the covers of the tuples, the sources and the dual forms
--   IsBuiltPart old new lists part  the sheaf old got the stalk of the part at its next vertex, and in each degree the
--                                   block of the part passes for the list of this degree
use Rattle.std.specs.Prelude.{◌≡◌, ℕ, ◌+◌, ◌^◌, ◌<◌, ◌≤◌, All, List, [], length, slice_index, slice_index_or}
use Rattle.bmp_linear.specs.declared.blocks.DegreeBlock.{DegreeBlock}
use Rattle.bmp_linear.specs.SparseVectors.{ValuesBelow}
use Rattle.bmp_linear.specs.Evidence.{EvidenceFits, EvidenceBelow}
use Rattle.bmp_linear.specs.Faults.{AllPass}
use Rattle.bmp_linear.specs.KernelChecks.{KernelCompares}
use Rattle.bmp_sheaf.specs.Coordinates.{stalk_count, boundary_count}
use Rattle.bmp_sheaf.specs.Numbers.{boundary_matrix}
use Rattle.bmp_sheaf.specs.Written.{up_count}
use Rattle.bmp_sheaf.specs.States.{SheafState, next_vertex, with_stalk, sheaf_of}
use Rattle.bmp_sheaf.specs.StalkFaults.{IsStalk}
use Rattle.bmp_sections.specs.TupleLists.{TupleList}
use Rattle.bmp_cover.specs.CoverInputs.{HasTuples, CoverFits}
use Rattle.bmp_cover.specs.CoverChecks.{CoverCompares, CoverPasses}
use Rattle.bmp_levels.specs.Lists.{first_members}
use Rattle.bmp_levels.specs.Runs.{FamilyTable, list_of}
use Rattle.bmp_cert.specs.declared.cert.VertexPart.{VertexPart}

abbrev pub no_family : FamilyTable
no_family = record { vertices = 0; count = 0; runs = [] }

abbrev pub no_block : DegreeBlock
no_block = record {
  kernel = record { pivots = []; basis = []; rows = [] };
  cover = record { covers = []; sources = []; duals = [] };
}

abbrev pub list_at : List FamilyTable → List ℕ → ℕ → TupleList
list_at families counts d = first_members (slice_index counts d) (list_of (slice_index_or families d no_family))

pub record HaveMembers {A : Type 0} (s : SheafState A) (families : List FamilyTable) (counts : List ℕ) : Type 0 where
  pub within : (d : ℕ) → d ≤ s.degree → slice_index counts d ≤ (slice_index_or families d no_family).count
  pub tuples : (d : ℕ) → d ≤ s.degree → HasTuples s (next_vertex s) d (list_at families counts d)

pub record IsBuiltBlock {A : Type 0} (s : SheafState A) (x d : ℕ) (list : TupleList) (b : DegreeBlock) : Type 0 where
  pub kernel_fits : EvidenceFits b.kernel (boundary_count s.graph (sheaf_of s) x d)
      (stalk_count s.graph.rank ((sheaf_of s).degrees x) d)
  pub kernel_below : EvidenceBelow b.kernel s.graph.prime
  pub kernel : AllPass (KernelCompares s.graph.prime (boundary_matrix s.graph (sheaf_of s) x d) b.kernel)
  pub cover_fits : CoverFits s x d list.count b.cover
  pub cover : CoverPasses (CoverCompares s.graph (sheaf_of s) x d list b.cover)
  pub few : stalk_count s.graph.rank ((sheaf_of s).degrees x) d < 2 ^ 32
  pub few_on_boundary : boundary_count s.graph (sheaf_of s) x d < 2 ^ 32

pub record IsBuiltPart {A : Type 0} (old new : SheafState A) (lists : ℕ → TupleList) (part : VertexPart) : Type 0 where
  pub stalk : new ≡ with_stalk old (record { degrees = part.degrees; lifts = part.lifts })
  pub is_stalk : IsStalk old (next_vertex old) part.degrees part.lifts
  pub edges : part.edges ≡ up_count old.graph (next_vertex old)
  pub bounded : All (λ d. d ≤ old.degree) part.degrees
  pub values : All (λ v. ValuesBelow v old.graph.prime) part.lifts
  pub blocks : length part.blocks ≡ old.degree + 1
  pub block : (d : ℕ) → d ≤ old.degree →
      IsBuiltBlock new (next_vertex old) d (lists d) (slice_index_or part.blocks d no_block)
