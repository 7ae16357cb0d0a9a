-- A block by whole spaces that fits and passes: what it keeps from one sheaf to one that agrees, its sizes and its
-- lines.
use Rattle.std.proofs.Common.{◌≡◌, ℕ, ◌+◌, ◌-◌, ◌<◌, ◌≤◌, ◌^◌, List, ◌++◌, length, refl, sym, ap, subst, ◌∙◌, arith}
use Rattle.std.specs.Prelude.{All}
use Rattle.std.proofs.Math.Path.{fun_ext}
use Rattle.bmp_math.specs.Matrices.{SameMatrix}
use Rattle.bmp_graph.specs.Graph.{Graph}
use Rattle.bmp_linear.specs.declared.vector.Entry.{Entry}
use Rattle.bmp_linear.specs.declared.blocks.DegreeBlock.{DegreeBlock}
use Rattle.bmp_linear.specs.declared.evidence.CoverEvidence.{CoverEvidence}
use Rattle.bmp_linear.specs.declared.evidence.KernelEvidence.{KernelEvidence}
use Rattle.bmp_linear.specs.SparseVectors.{FitsBelow}
use Rattle.bmp_linear.specs.Evidence.{vector_at}
use Rattle.bmp_linear.proofs.SameComparisons.{kernel_passes_same, evidence_fits_same}
use Rattle.bmp_sheaf.specs.Sheaves.{SheafData}
use Rattle.bmp_sheaf.specs.Coordinates.{stalk_count, boundary_count}
use Rattle.bmp_sections.specs.Numbers.{equation_matrix}
use Rattle.bmp_sections.specs.TupleLists.{TupleList, tuples_over}
use Rattle.bmp_cover.specs.Counts.{generators_in}
use Rattle.bmp_cover.specs.CoverChecks.{CoverCompares, CoverPasses}
use Rattle.bmp_cert.specs.BlockGrammar.{IsBlock}
use Rattle.bmp_check.specs.declared.sizes.BlockSizes.{BlockSizes}
use Rattle.bmp_check.specs.declared.method.Method.TheVariants.{Spaces}
use Rattle.bmp_check.specs.Sizes.{pivot_sizes, kernel_sizes, cover_sizes, last_size, sizes_of_block}
use Rattle.bmp_stalk.specs.Above.{AgreeAbove}
use Rattle.bmp_stalk.proofs.AboveLemmas.{equations_stay, starts_stay}
use Rattle.bmp_stalk.proofs.ListLemmas.{equal_values_pass}
use Rattle.bmp_build.specs.BuiltGraphs.{IsHeldBlock}
use Rattle.bmp_build.specs.WholeSpaces.{positions_above, equations_above, IsWholeSpace, sections_of, IsWholeBlock}
use Rattle.bmp_build.proofs.AgreeLemmas.{AgreeAt, own_count, own_boundary, own_generators, comparisons_agree_at}
use Rattle.bmp_build.proofs.HoldingSizes.{AllHold, hold_both, pivots_hold, kernel_holds, covers_hold}
use Rattle.bmp_build.proofs.Lines.{vectors_lines, places_lines}

-- ---- to a sheaf that agrees with it above the vertex

module _ {G : Graph} {x : ℕ} {F F' : SheafData} (above : AgreeAbove G x F F') (d : ℕ) where
  pub same_equations : SameMatrix (equation_matrix G F x d) (equation_matrix G F' x d)
  same_equations = equations_stay G F F' x d above

  pub space_there : {e : KernelEvidence} → IsWholeSpace G F' x d e → IsWholeSpace G F x d e
  space_there {e = e} space = record {
    few_positions = subst (λ n. n < 2 ^ 32) (sym same_equations.cols) space.few_positions;
    few_equations = subst (λ n. n < 2 ^ 32) (sym same_equations.rows) space.few_equations;
    fits = evidence_fits_same same_equations e space.fits;
    below = space.below;
    passes = kernel_passes_same same_equations G.prime e space.fits space.passes;
  }

  same_values : (vs : List (List Entry)) → (tuples_over G F' x d vs).value ≡ (tuples_over G F x d vs).value
  same_values vs =
      let values : (ℕ → ℕ) → ℕ → ℕ → ℕ → ℕ = λ start j y c. vector_at vs j (start y + c) in
      sym (ap values (fun_ext (starts_stay above d)))

  -- the sections of the one and of the other
  pub passes_over : (H : SheafData) (vs : List (List Entry)) (e : CoverEvidence) →
      CoverPasses (CoverCompares G H x d (tuples_over G F' x d vs) e) →
      CoverPasses (CoverCompares G H x d (tuples_over G F x d vs) e)
  passes_over H vs e =
      equal_values_pass G H x d (tuples_over G F' x d vs) (tuples_over G F x d vs) e refl (same_values vs)

-- ---- and at the vertex

pub whole_there : {G : Graph} {x : ℕ} {F F' : SheafData} → AgreeAt G x F F' → AgreeAbove G x F F' → {d : ℕ}
    {b : DegreeBlock} → IsWholeBlock G F' x d b → IsWholeBlock G F x d b
whole_there {G = G} {x = x} {F = F} {F' = F'} agree above {d = d} {b = b} whole = record {
  space = space_there above d whole.space;
  few = subst (λ n. n < 2 ^ 32) (own_count agree d) whole.few;
  few_on_boundary = subst (λ n. n < 2 ^ 32) (own_boundary agree d) whole.few_on_boundary;
  covers = whole.covers;
  sources = whole.sources ∙ own_generators agree d;
  duals = whole.duals ∙ own_generators agree d;
  covers_fit = subst (λ n. All (λ v. FitsBelow v n) b.cover.covers) (own_count agree d) whole.covers_fit;
  sources_fit = whole.sources_fit;
  duals_fit = subst (λ n. All (λ v. FitsBelow v n) b.cover.duals) (own_boundary agree d) whole.duals_fit;
  covers_below = whole.covers_below;
  sources_below = whole.sources_below;
  duals_below = whole.duals_below;
  passes =
      passes_over above d F b.kernel.basis b.cover
      (λ r compares. whole.passes r (comparisons_agree_at agree d (sections_of G F' x d b) b.cover r compares));
}

-- ---- its sizes hold, and it has lines

module _ {G : Graph} {F : SheafData} {x d : ℕ} {b : DegreeBlock} (whole : IsWholeBlock G F x d b) where
  abbrev sizes : BlockSizes
  sizes = record {
    columns = positions_above G F x d;
    rows = equations_above G F x d;
    stalk = stalk_count G.rank (F.degrees x) d;
    boundary = boundary_count G F x d;
    tuples = length b.kernel.basis;
  }

  pub whole_sizes_hold : AllHold (sizes_of_block Spaces sizes b)
  whole_sizes_hold =
      hold_both (pivot_sizes sizes b.kernel)
      (kernel_sizes sizes b.kernel ++ (cover_sizes sizes b.cover ++ last_size sizes))
      (pivots_hold sizes b.kernel whole.space.fits)
      (hold_both (kernel_sizes sizes b.kernel) (cover_sizes sizes b.cover ++ last_size sizes)
      (kernel_holds sizes b.kernel whole.space.fits)
      (hold_both (cover_sizes sizes b.cover) (last_size sizes)
      (covers_hold sizes b.cover whole.covers_fit whole.sources_fit whole.duals_fit) (
        omega (arith, whole.few, whole.few_on_boundary, whole.space.few_positions, whole.space.few_equations),
        tt,
      )))

  pub whole_block_lines : (at : ℕ → ℕ) → generators_in F x d ≡ at d → IsHeldBlock b →
      IsBlock 1 (G.prime - 1) at d b
  whole_block_lines at counted held =
      let columns : positions_above G F x d ≤ 2 ^ 32 = omega (arith, whole.space.few_positions) in
      let rows : equations_above G F x d ≤ 2 ^ 32 = omega (arith, whole.space.few_equations) in
      let own : stalk_count G.rank (F.degrees x) d ≤ 2 ^ 32 = omega (arith, whole.few) in
      let around : boundary_count G F x d ≤ 2 ^ 32 = omega (arith, whole.few_on_boundary) in
      record {
        few_pivots = omega (arith, held.few_pivots);
        few_vectors = omega (arith, held.basis.few);
        few_covers = omega (arith, held.covers.few);
        as_many = λ spaces. whole.covers;
        pivots = places_lines (positions_above G F x d) b.kernel.pivots whole.space.few_positions
            whole.space.fits.pivots_rise whole.space.fits.pivots_below;
        basis = vectors_lines G.prime (positions_above G F x d) (length b.kernel.basis) b.kernel.basis columns
            held.basis refl whole.space.fits.basis_fits whole.space.below.basis_below;
        rows = vectors_lines G.prime (equations_above G F x d) (length b.kernel.pivots) b.kernel.rows rows
            held.rows whole.space.fits.row_for_each whole.space.fits.rows_fit whole.space.below.rows_below;
        covers = vectors_lines G.prime (stalk_count G.rank (F.degrees x) d) (length b.cover.covers) b.cover.covers
            own held.covers refl whole.covers_fit whole.covers_below;
        sources = vectors_lines G.prime (length b.kernel.basis) (at d) b.cover.sources
            (omega (arith, held.basis.few)) held.sources (whole.sources ∙ counted) whole.sources_fit
            whole.sources_below;
        duals = vectors_lines G.prime (boundary_count G F x d) (at d) b.cover.duals around held.duals
            (whole.duals ∙ counted) whole.duals_fit whole.duals_below;
      }
