-- The comparisons of covers, sources and dual forms at the vertex x in degree d, for a list of tuples. The index of a
-- cover is that of its tuple; a source and a dual form have the number of their generator, of degree d, as index. In
-- the order to read:
--   source_place F x d g          how many generators of degree d come before the generator g: the place of its source
--                                 and its form
--   ComparesCover .. r            at a boundary coordinate, the boundary of a cover with that of its tuple
--   ComparesSource .. r           at a boundary coordinate, the boundary of a generator with that of its source's
--                                 combination of the tuples
--   ComparesDual .. r             at a stalk coordinate, the form on the boundary of the element that is 1 there, with
--                                 1 at the generator's own coordinate and 0 at the others
--   CoverCompares .. r            one of these
--   CoverIsBefore r s             by kind, then by index, then by place
--   CoverPasses, IsFirstCoverFailure   no comparison fails; the first that fails
use Rattle.std.specs.Prelude.{◌≡◌, ◌≢◌, ℕ, ◌<◌, ◌%◌, ◌==◌, ◌⊎◌, length, take, slice_index, count_by}
use Rattle.bmp_math.specs.Vectors.{unit}
use Rattle.bmp_math.specs.Matrices.{combination}
use Rattle.bmp_graph.specs.Graph.{Graph}
use Rattle.bmp_linear.specs.declared.evidence.CoverEvidence.{CoverEvidence}
use Rattle.bmp_linear.specs.Evidence.{vector_at}
use Rattle.bmp_sheaf.specs.Sheaves.{SheafData, boundary_of_element, boundary_of_tuple}
use Rattle.bmp_sheaf.specs.Coordinates.{stalk_count, element_of, boundary_count}
use Rattle.bmp_sheaf.specs.Numbers.{boundary_number, boundary_matrix, unit_at}
use Rattle.bmp_sections.specs.TupleLists.{TupleList, tuples_in}
use Rattle.bmp_cover.specs.Evidence.{combined_tuple, generator_place}
use Rattle.bmp_cover.specs.Kinds.{kind_number}
use Rattle.bmp_cover.specs.declared.fault.CoverFault.{CoverFault}
use Rattle.bmp_cover.specs.declared.kind.Kind.TheVariants.{Cover, Source, Dual}

abbrev pub source_place : SheafData → ℕ → ℕ → ℕ → ℕ
source_place F x d g = count_by (λ e. e == d) (take g (F.degrees x))

module _ (G : Graph) (F : SheafData) (x d : ℕ) (list : TupleList) (e : CoverEvidence) where
  pub record ComparesCover (r : CoverFault) : Type 0 where
    pub kind : r.kind ≡ Cover
    pub tuple : r.index < list.count
    pub place : r.place < boundary_count G F x d
    pub left_is : r.left ≡ boundary_number G F x d
        (boundary_of_element G F d (element_of G.rank (F.degrees x) d (vector_at e.covers r.index))) r.place
    pub right_is : r.right ≡ boundary_number G F x d (boundary_of_tuple G (tuples_in G F d list r.index)) r.place

  pub record ComparesSource (r : CoverFault) : Type 0 where
    pub kind : r.kind ≡ Source
    pub generator : r.index < length (F.degrees x)
    pub degree : slice_index (F.degrees x) r.index ≡ d
    pub place : r.place < boundary_count G F x d
    pub left_is : r.left ≡ boundary_number G F x d
        (boundary_of_element G F d (unit_at G.rank (F.degrees x) d (generator_place G F x d r.index))) r.place
    pub right_is : r.right ≡ boundary_number G F x d
        (boundary_of_tuple G
        (combined_tuple (vector_at e.sources (source_place F x d r.index)) (tuples_in G F d list) list.count)) r.place

module _ (G : Graph) (F : SheafData) (x d : ℕ) (e : CoverEvidence) where
  pub record ComparesDual (r : CoverFault) : Type 0 where
    pub kind : r.kind ≡ Dual
    pub generator : r.index < length (F.degrees x)
    pub degree : slice_index (F.degrees x) r.index ≡ d
    pub place : r.place < stalk_count G.rank (F.degrees x) d
    pub left_is : r.left ≡ combination (vector_at e.duals (source_place F x d r.index)) (boundary_matrix G F x d).entry
        (boundary_count G F x d) r.place % G.prime
    pub right_is : r.right ≡ unit (generator_place G F x d r.index) r.place

abbrev pub CoverCompares : Graph → SheafData → ℕ → ℕ → TupleList → CoverEvidence → CoverFault → Type 0
CoverCompares G F x d list e r =
    ComparesCover G F x d list e r ⊎ (ComparesSource G F x d list e r ⊎ ComparesDual G F x d e r)

abbrev pub CoverIsBefore : CoverFault → CoverFault → Type 0
CoverIsBefore r s = (kind_number r.kind < kind_number s.kind)
    ⊎ ((kind_number r.kind ≡ kind_number s.kind) × ((r.index < s.index) ⊎ ((r.index ≡ s.index) × (r.place < s.place))))

abbrev pub CoverPasses : (CoverFault → Type 0) → Type 0
CoverPasses Compares = (r : CoverFault) → Compares r → r.left ≡ r.right

pub record IsFirstCoverFailure (Compares : CoverFault → Type 0) (fault : CoverFault) : Type 0 where
  pub compared : Compares fault
  pub differs : fault.left ≢ fault.right
  pub earlier : (r : CoverFault) → Compares r → CoverIsBefore r fault → r.left ≡ r.right
