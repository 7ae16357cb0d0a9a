-- Evidence by levels. In the order to read:
--   KernelPasses G F x d e             the kernel evidence fits the boundary map of x and passes
--   CoversMembers G F x d block list   the covers of a block have the boundaries of the members of the list
--   ExtendsBy G F k d block list       both at all vertices of length k: what an extension by these blocks rests on
--   PassesByLevels G F most top blocks the top has one generator, of degree 0, and at each other vertex and degree up
--                                      to `most` the evidence passes for the family over the longer vertices
use Rattle.std.specs.Prelude.{◌≡◌, ◌≢◌, ℕ, suc, ◌<◌, ◌≤◌, [], ◌∷◌}
use Rattle.bmp_graph.specs.Graph.{Graph, vertex_count, length_at}
use Rattle.bmp_linear.specs.declared.blocks.DegreeBlock.{DegreeBlock}
use Rattle.bmp_linear.specs.declared.evidence.KernelEvidence.{KernelEvidence}
use Rattle.bmp_linear.specs.Evidence.{EvidenceFits, vector_at}
use Rattle.bmp_linear.specs.Faults.{AllPass}
use Rattle.bmp_linear.specs.KernelChecks.{KernelCompares}
use Rattle.bmp_sheaf.specs.Fields.{IsOverField}
use Rattle.bmp_sheaf.specs.Sheaves.{SheafData}
use Rattle.bmp_sheaf.specs.Coordinates.{stalk_count, element_of, boundary_count}
use Rattle.bmp_sheaf.specs.Numbers.{boundary_matrix}
use Rattle.bmp_sections.specs.TupleLists.{TupleList, tuples_in}
use Rattle.bmp_cover.specs.Evidence.{AreCovers}
use Rattle.bmp_cover.specs.CoverChecks.{CoverCompares, CoverPasses}
use Rattle.bmp_levels.specs.Families.{family}

module _ (G : Graph) (F : SheafData) (x d : ℕ) where
  pub record KernelPasses (e : KernelEvidence) : Type 0 where
    pub fits : EvidenceFits e (boundary_count G F x d) (stalk_count G.rank (F.degrees x) d)
    pub passes : AllPass (KernelCompares G.prime (boundary_matrix G F x d) e)

  abbrev pub CoversMembers : DegreeBlock → TupleList → Type 0
  CoversMembers block list =
      AreCovers G F x d (tuples_in G F d list) list.count
      (λ j. element_of G.rank (F.degrees x) d (vector_at block.cover.covers j))

pub record ExtendsBy (G : Graph) (F : SheafData) (k d : ℕ) (block : ℕ → DegreeBlock) (list : TupleList) : Type 0 where
  pub over : IsOverField G
  pub wide : G.rank ≤ 6
  pub kernels : (x : ℕ) → x < vertex_count G → length_at G x ≡ k → KernelPasses G F x d (block x).kernel
  pub covers : (x : ℕ) → x < vertex_count G → length_at G x ≡ k → CoversMembers G F x d (block x) list

-- blocks x d is the block of x and d
pub record PassesByLevels (G : Graph) (F : SheafData) (most top : ℕ) (blocks : ℕ → ℕ → DegreeBlock) : Type 0 where
  pub top_stalk : F.degrees top ≡ 0 ∷ []
  pub kernels : (x d : ℕ) → x < vertex_count G → x ≢ top → d ≤ most → KernelPasses G F x d (blocks x d).kernel
  pub covers :
      (x d : ℕ) → x < vertex_count G → x ≢ top → d ≤ most →
      CoverPasses (CoverCompares G F x d (family G F d top (λ y. blocks y d) (suc (length_at G x))) (blocks x d).cover)
