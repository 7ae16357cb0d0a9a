-- Parts with evidence by whole spaces of sections, that were built one by one from the greatest vertex down. In the
-- order to read:
--   IsWholeSpace G F x d e      e is kernel evidence for the edge equations of degree d over the vertices above x, of
--                               which, as of the positions, there are fewer than 2^32, and it passes
--   IsWholeBlock G F x d b      the kernel evidence of b is such; its cover evidence fits the sections of that basis,
--                               the stalk and the boundaries at x, and no comparison of it fails
--   IsPartStalk old new part    the sheaf old got the stalk of the part at its next vertex; the part has a block a
--                               degree
--   IsWholePart old new part    and each of its blocks is such a block
--   IsSameSheaf s t             the sheaves in memory have the same graph, degree bound and stalks
--   IsBuiltSpace s x d b t      beside the stalk t, which grows upon s at x: the kernel evidence is for the whole
--                               space, and the cover evidence was read off a choice of its sections
--   IsWholeAt A G c x           the part of x was built upon such a sheaf, and has the shape of a part
--   AreWhole A G c              the parts are those of the vertices of the graph, the greatest is top_part, and each
--                               other was built
--   WholePartsPass A            then they have lines of version 1, and no comparison fails
--   IsWholeIn A G D parts x     the part of x was built, whatever parts come behind these
--   AreWholeDown G D s parts    so were all that are there, and s is the sheaf that they write down
use Rattle.std.specs.Prelude.{◌≡◌, ℕ, ◌+◌, ◌-◌, ◌^◌, ◌<◌, ◌≤◌, All, List, length, map, slice_index_or}
use Rattle.bmp_linear.specs.declared.blocks.DegreeBlock.{DegreeBlock}
use Rattle.bmp_linear.specs.declared.evidence.KernelEvidence.{KernelEvidence}
use Rattle.bmp_linear.specs.SparseVectors.{FitsBelow, ValuesBelow}
use Rattle.bmp_linear.specs.Evidence.{EvidenceFits, EvidenceBelow}
use Rattle.bmp_linear.specs.Faults.{AllPass}
use Rattle.bmp_linear.specs.KernelChecks.{KernelCompares}
use Rattle.bmp_graph.specs.Graph.{Graph, vertex_count}
use Rattle.bmp_sheaf.specs.Sheaves.{SheafData}
use Rattle.bmp_sheaf.specs.Coordinates.{stalk_count, boundary_count}
use Rattle.bmp_sheaf.specs.Written.{up_count}
use Rattle.bmp_sheaf.specs.States.{Stalk, SheafState, next_vertex, with_stalk, sheaf_of}
use Rattle.bmp_sheaf.specs.StalkFaults.{IsStalk}
use Rattle.bmp_sections.specs.Positions.{position_count, equation_count}
use Rattle.bmp_sections.specs.Numbers.{is_above, equation_matrix}
use Rattle.bmp_sections.specs.TupleLists.{TupleList, tuples_over}
use Rattle.bmp_cover.specs.Counts.{generators_in}
use Rattle.bmp_cover.specs.CoverChecks.{CoverCompares, CoverPasses}
use Rattle.bmp_cert.specs.declared.cert.VertexPart.{VertexPart}
use Rattle.bmp_cert.specs.Counts.{Written, no_part, part_of}
use Rattle.bmp_cert.specs.CertGrammar.{HavePartLines}
use Rattle.bmp_check.specs.Accepted.{IsCheckableGraph}
use Rattle.bmp_check.specs.BlockData.{no_block, top_vertex}
use Rattle.bmp_check.specs.Shaped.{cert_stalk}
use Rattle.bmp_check.specs.Verdicts.{Passes}
use Rattle.bmp_stalk.specs.Drafts.{IsBuiltDegree}
use Rattle.bmp_build.specs.BuiltGraphs.{top_part, IsHeldPart, IsBefore}
use Rattle.bmp_build.specs.Building.{Continues}

module _ (G : Graph) (F : SheafData) (x d : ℕ) where
  abbrev pub positions_above : ℕ
  positions_above = position_count G F (is_above G x) d

  abbrev pub equations_above : ℕ
  equations_above = equation_count G F (is_above G x) d

  pub record IsWholeSpace (e : KernelEvidence) : Type 0 where
    pub few_positions : positions_above < 2 ^ 32
    pub few_equations : equations_above < 2 ^ 32
    pub fits : EvidenceFits e equations_above positions_above
    pub below : EvidenceBelow e G.prime
    pub passes : AllPass (KernelCompares G.prime (equation_matrix G F x d) e)

  -- the sections of a block
  abbrev pub sections_of : DegreeBlock → TupleList
  sections_of b = tuples_over G F x d b.kernel.basis

  pub record IsWholeBlock (b : DegreeBlock) : Type 0 where
    pub space : IsWholeSpace b.kernel
    pub few : stalk_count G.rank (F.degrees x) d < 2 ^ 32
    pub few_on_boundary : boundary_count G F x d < 2 ^ 32
    pub covers : length b.cover.covers ≡ length b.kernel.basis
    pub sources : length b.cover.sources ≡ generators_in F x d
    pub duals : length b.cover.duals ≡ generators_in F x d
    pub covers_fit : All (λ v. FitsBelow v (stalk_count G.rank (F.degrees x) d)) b.cover.covers
    pub sources_fit : All (λ v. FitsBelow v (length b.kernel.basis)) b.cover.sources
    pub duals_fit : All (λ v. FitsBelow v (boundary_count G F x d)) b.cover.duals
    pub covers_below : All (λ v. ValuesBelow v G.prime) b.cover.covers
    pub sources_below : All (λ v. ValuesBelow v G.prime) b.cover.sources
    pub duals_below : All (λ v. ValuesBelow v G.prime) b.cover.duals
    pub passes : CoverPasses (CoverCompares G F x d (sections_of b) b.cover)

pub record IsPartStalk {A : Type 0} (old new : SheafState A) (part : VertexPart) : Type 0 where
  pub stalk : new ≡ with_stalk old (cert_stalk part)
  pub is_stalk : IsStalk old (next_vertex old) part.degrees part.lifts
  pub edges : part.edges ≡ up_count old.graph (next_vertex old)
  pub bounded : All (λ d. d ≤ old.degree) part.degrees
  pub values : All (λ v. ValuesBelow v old.graph.prime) part.lifts
  pub blocks : length part.blocks ≡ old.degree + 1

pub record IsWholePart {A : Type 0} (old new : SheafState A) (part : VertexPart) : Type 0 where
  pub own : IsPartStalk old new part
  pub block : (d : ℕ) → d ≤ old.degree →
      IsWholeBlock new.graph (sheaf_of new) (next_vertex old) d (slice_index_or part.blocks d no_block)

pub record IsSameSheaf {A : Type 0} (s t : SheafState A) : Type 0 where
  pub graph : s.graph ≡ t.graph
  pub degree : s.degree ≡ t.degree
  pub stalks : s.stalks ≡ t.stalks

pub record IsBuiltSpace {A : Type 0} (s : SheafState A) (x d : ℕ) (b : DegreeBlock) (t : Stalk) : Type 0 where
  pub space : IsWholeSpace s.graph (sheaf_of s) x d b.kernel
  pub choice : DegreeBlock
  pub built : IsBuiltDegree s x d (sections_of s.graph (sheaf_of s) x d b) choice t
  pub cover : b.cover ≡ choice.cover

-- ---- all parts

pub record IsWholeAt (A : Type 0) (G : Graph) (c : Written) (x : ℕ) : Type 0 where
  pub old : SheafState A
  pub new : SheafState A
  pub before : IsBefore G c x old
  pub built : IsWholePart old new (part_of c x)
  pub held : IsHeldPart (part_of c x)

pub record AreWhole (A : Type 0) (G : Graph) (c : Written) : Type 0 where
  pub counted : length c.parts ≡ vertex_count G
  pub top : part_of c (top_vertex G) ≡ top_part
  pub others : (x : ℕ) → x + 1 < vertex_count G → IsWholeAt A G c x

abbrev pub WholePartsPass : Type 0 → Type 0
WholePartsPass A =
    (G : Graph) (c : Written) → IsCheckableGraph G → c.degree ≤ 6 → AreWhole A G c →
    HavePartLines 1 (G.prime - 1) c.degree c.parts × Passes G 1 c

-- ---- on the way down

pub record IsWholeIn (A : Type 0) (G : Graph) (D : ℕ) (parts : List VertexPart) (x : ℕ) : Type 0 where
  pub built : (c : Written) → Continues G D parts c → IsWholeAt A G c x

pub record AreWholeDown {A : Type 0} (G : Graph) (D : ℕ) (s : SheafState A) (parts : List VertexPart) : Type 0 where
  pub graph : s.graph ≡ G
  pub degree : s.degree ≡ D
  pub stalks : s.stalks ≡ map cert_stalk parts
  pub some : 1 ≤ length parts
  pub few : length parts ≤ vertex_count G
  pub top : slice_index_or parts 0 no_part ≡ top_part
  pub vertices : (x : ℕ) → x + 1 < vertex_count G → vertex_count G ≤ x + length parts → IsWholeIn A G D parts x
