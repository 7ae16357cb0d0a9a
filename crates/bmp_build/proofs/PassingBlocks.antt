-- A block that fits and passes, of a sheaf and a list of tuples; what it keeps from one sheaf to one that agrees, and
-- from one list to one with the same values; its sizes and its lines.
use Rattle.std.proofs.Common.{◌≡◌, ℕ, ◌-◌, ◌<◌, ◌≤◌, ◌^◌, eqb, [], ◌∷◌, ◌++◌, length, refl, sym, ap, subst, ◌∙◌, arith}
use Rattle.std.specs.Prelude.{count_by, All}
use Rattle.bmp_graph.specs.Graph.{Graph, IsAbove}
use Rattle.bmp_linear.specs.declared.blocks.DegreeBlock.{DegreeBlock}
use Rattle.bmp_linear.specs.SparseVectors.{FitsBelow, ValuesBelow}
use Rattle.bmp_linear.specs.Evidence.{EvidenceFits, EvidenceBelow}
use Rattle.bmp_linear.specs.Faults.{AllPass}
use Rattle.bmp_linear.specs.KernelChecks.{KernelCompares}
use Rattle.bmp_linear.proofs.SameComparisons.{kernel_passes_same, evidence_fits_same}
use Rattle.bmp_sheaf.specs.Fields.{IsOverField}
use Rattle.bmp_sheaf.specs.Sheaves.{SheafData}
use Rattle.bmp_sheaf.specs.Coordinates.{stalk_count, boundary_count}
use Rattle.bmp_sheaf.specs.Numbers.{boundary_matrix}
use Rattle.bmp_sheaf.specs.States.{SheafState, sheaf_of}
use Rattle.bmp_sections.specs.Sections.{above}
use Rattle.bmp_sections.specs.TupleLists.{TupleList}
use Rattle.bmp_cover.specs.Counts.{generators_in}
use Rattle.bmp_cover.specs.CoverChecks.{CoverCompares, CoverPasses}
use Rattle.bmp_levels.specs.Families.{stalk_size}
use Rattle.bmp_levels.specs.Lists.{SameList}
use Rattle.bmp_levels.proofs.Comparing.{comparisons_agree}
use Rattle.bmp_cert.specs.BlockGrammar.{IsBlock}
use Rattle.bmp_check.specs.declared.sizes.BlockSizes.{BlockSizes}
use Rattle.bmp_check.specs.declared.method.Method.TheVariants.{Levels}
use Rattle.bmp_check.specs.Sizes.{is, pivot_sizes, kernel_sizes, cover_sizes, last_size, sizes_of_block}
use Rattle.bmp_stalk.specs.BuiltParts.{IsBuiltBlock}
use Rattle.bmp_build.specs.BuiltGraphs.{IsHeldBlock}
use Rattle.bmp_build.proofs.AgreeLemmas.{AgreeAt, own_count, own_boundary, own_generators, matrices_agree, comparisons_agree_at}
use Rattle.bmp_build.proofs.HoldingSizes.{AllHold, hold_both, pivots_hold, kernel_holds, covers_hold}
use Rattle.bmp_build.proofs.Lines.{vectors_lines, places_lines}

abbrev pub coordinates : Graph → SheafData → ℕ → ℕ → ℕ
coordinates G F x d = stalk_count G.rank (F.degrees x) d

module _ (G : Graph) (F : SheafData) (x d : ℕ) where
  -- what has nothing to do with the values of the tuples
  pub record FitsAt (count : ℕ) (b : DegreeBlock) : Type 0 where
    pub kernel_fits : EvidenceFits b.kernel (boundary_count G F x d) (coordinates G F x d)
    pub kernel_below : EvidenceBelow b.kernel G.prime
    pub kernel : AllPass (KernelCompares G.prime (boundary_matrix G F x d) b.kernel)
    pub covers : length b.cover.covers ≡ count
    pub sources : length b.cover.sources ≡ generators_in F x d
    pub duals : length b.cover.duals ≡ generators_in F x d
    pub covers_fit : All (λ v. FitsBelow v (coordinates G F x d)) b.cover.covers
    pub sources_fit : All (λ v. FitsBelow v count) b.cover.sources
    pub duals_fit : All (λ v. FitsBelow v (boundary_count G F x d)) b.cover.duals
    pub covers_below : All (λ v. ValuesBelow v G.prime) b.cover.covers
    pub sources_below : All (λ v. ValuesBelow v G.prime) b.cover.sources
    pub duals_below : All (λ v. ValuesBelow v G.prime) b.cover.duals
    pub few : coordinates G F x d < 2 ^ 32
    pub few_on_boundary : boundary_count G F x d < 2 ^ 32

  pub record PassesAt (list : TupleList) (b : DegreeBlock) : Type 0 where
    pub fits : FitsAt list.count b
    pub cover : CoverPasses (CoverCompares G F x d list b.cover)

-- ---- from the sheaf in hand

pub built_passes : {A : Type 0} {s : SheafState A} {x d : ℕ} {list : TupleList} {b : DegreeBlock} →
    IsBuiltBlock s x d list b → PassesAt s.graph (sheaf_of s) x d list b
built_passes built = record {
  fits = record {
    kernel_fits = built.kernel_fits;
    kernel_below = built.kernel_below;
    kernel = built.kernel;
    covers = built.cover_fits.covers;
    sources = built.cover_fits.sources;
    duals = built.cover_fits.duals;
    covers_fit = built.cover_fits.covers_fit;
    sources_fit = built.cover_fits.sources_fit;
    duals_fit = built.cover_fits.duals_fit;
    covers_below = built.cover_fits.covers_below;
    sources_below = built.cover_fits.sources_below;
    duals_below = built.cover_fits.duals_below;
    few = built.few;
    few_on_boundary = built.few_on_boundary;
  };
  cover = built.cover;
}

-- ---- to a sheaf that agrees with it

module _ {G : Graph} {x : ℕ} {F F' : SheafData} (agree : AgreeAt G x F F') {d : ℕ} {list : TupleList} {b : DegreeBlock}
    (passes : PassesAt G F' x d list b) where
  pub passes_there : PassesAt G F x d list b
  passes_there = record {
    fits = record {
      kernel_fits = evidence_fits_same (matrices_agree agree d) b.kernel passes.fits.kernel_fits;
      kernel_below = passes.fits.kernel_below;
      kernel =
          kernel_passes_same (matrices_agree agree d) G.prime b.kernel passes.fits.kernel_fits passes.fits.kernel;
      covers = passes.fits.covers;
      sources = passes.fits.sources ∙ own_generators agree d;
      duals = passes.fits.duals ∙ own_generators agree d;
      covers_fit = subst (λ n. All (λ v. FitsBelow v n) b.cover.covers) (own_count agree d) passes.fits.covers_fit;
      sources_fit = passes.fits.sources_fit;
      duals_fit = subst (λ n. All (λ v. FitsBelow v n) b.cover.duals) (own_boundary agree d) passes.fits.duals_fit;
      covers_below = passes.fits.covers_below;
      sources_below = passes.fits.sources_below;
      duals_below = passes.fits.duals_below;
      few = subst (λ n. n < 2 ^ 32) (own_count agree d) passes.fits.few;
      few_on_boundary = subst (λ n. n < 2 ^ 32) (own_boundary agree d) passes.fits.few_on_boundary;
    };
    cover = λ r compares. passes.cover r (comparisons_agree_at agree d list b.cover r compares);
  }

-- ---- for a list with the same values

module _ {G : Graph} {F : SheafData} {x d : ℕ} {list other : TupleList} {b : DegreeBlock} (over : IsOverField G)
    (wide : G.rank ≤ 6) (same : SameList (above G x) list other)
    (sized : (y : ℕ) → IsAbove G y x → other.size y ≡ stalk_size G F d y) (passes : PassesAt G F x d list b) where
  pub passes_for : PassesAt G F x d other b
  passes_for = record {
    fits = subst (λ n. FitsAt G F x d n b) same.count passes.fits;
    cover = λ r compares.
        passes.cover r ((comparisons_agree G F x d list other b.cover over wide same sized r).1 compares);
  }

-- ---- its sizes hold, and it has lines

module _ {G : Graph} {F : SheafData} {x d count : ℕ} {b : DegreeBlock} (fits : FitsAt G F x d count b) where
  abbrev sizes : BlockSizes
  sizes = record {
    columns = coordinates G F x d;
    rows = boundary_count G F x d;
    stalk = coordinates G F x d;
    boundary = boundary_count G F x d;
    tuples = count;
  }

  pub sizes_hold : AllHold (sizes_of_block Levels sizes b)
  sizes_hold =
      hold_both (is (length b.cover.covers) count ∷ [])
      (pivot_sizes sizes b.kernel ++ (cover_sizes sizes b.cover ++ (kernel_sizes sizes b.kernel ++ last_size sizes)))
      (fits.covers, tt)
      (hold_both (pivot_sizes sizes b.kernel)
      (cover_sizes sizes b.cover ++ (kernel_sizes sizes b.kernel ++ last_size sizes))
      (pivots_hold sizes b.kernel fits.kernel_fits)
      (hold_both (cover_sizes sizes b.cover) (kernel_sizes sizes b.kernel ++ last_size sizes)
      (covers_hold sizes b.cover fits.covers_fit fits.sources_fit fits.duals_fit)
      (hold_both (kernel_sizes sizes b.kernel) (last_size sizes) (kernel_holds sizes b.kernel fits.kernel_fits)
      (omega (arith, fits.few, fits.few_on_boundary), tt))))

  pub block_lines : (version : ℕ) → 2 ≤ version → (at : ℕ → ℕ) → generators_in F x d ≡ at d → IsHeldBlock b →
      IsBlock version (G.prime - 1) at d b
  block_lines version levels at counted held =
      let few_members : count < 2 ^ 32 = subst (λ n. n < 2 ^ 32) fits.covers held.covers.few in
      let members : count ≤ 2 ^ 32 = omega (arith, few_members) in
      let own : coordinates G F x d ≤ 2 ^ 32 = omega (arith, fits.few) in
      let around : boundary_count G F x d ≤ 2 ^ 32 = omega (arith, fits.few_on_boundary) in
      record {
        few_pivots = omega (arith, held.few_pivots);
        few_vectors = omega (arith, held.basis.few);
        few_covers = omega (arith, held.covers.few);
        as_many = λ spaces. absurd (omega (arith, spaces, levels));
        pivots = places_lines (coordinates G F x d) b.kernel.pivots fits.few fits.kernel_fits.pivots_rise
            fits.kernel_fits.pivots_below;
        basis = vectors_lines G.prime (coordinates G F x d) (length b.kernel.basis) b.kernel.basis own held.basis
            refl fits.kernel_fits.basis_fits fits.kernel_below.basis_below;
        rows = vectors_lines G.prime (boundary_count G F x d) (length b.kernel.pivots) b.kernel.rows
            around held.rows fits.kernel_fits.row_for_each fits.kernel_fits.rows_fit
            fits.kernel_below.rows_below;
        covers = vectors_lines G.prime (coordinates G F x d) (length b.cover.covers) b.cover.covers own held.covers
            refl fits.covers_fit fits.covers_below;
        sources = vectors_lines G.prime count (at d) b.cover.sources members held.sources
            (fits.sources ∙ counted) fits.sources_fit fits.sources_below;
        duals = vectors_lines G.prime (boundary_count G F x d) (at d) b.cover.duals around held.duals
            (fits.duals ∙ counted) fits.duals_fit fits.duals_below;
      }
