-- What was read off a choice of columns passes as evidence, where the kept columns are the boundary matrix.
use Rattle.std.proofs.Common.{◌≡◌, ℕ, ◌+◌, ◌%◌, ◌<◌, ◌≤◌, eqb, List, length, inl, inr, sym, ap, ◌∙◌, arith, eq-eqb, ne_eqb}
use Rattle.std.specs.Prelude.{slice_index}
use Rattle.std.proofs.Math.Nat.{mod-eq_of_lt}
use Rattle.std.proofs.lemmas.Bool.{cases_eq, cond-true, cond-false}
use Rattle.bmp_math.specs.Vectors.{unit}
use Rattle.bmp_math.specs.Matrices.{Matrix}
use Rattle.bmp_linear.specs.SparseVectors.{number_at}
use Rattle.bmp_linear.specs.Evidence.{vector_at}
use Rattle.bmp_linear.specs.declared.evidence.CoverEvidence.{CoverEvidence}
use Rattle.bmp_elim.specs.KeptColumns.{kept_columns}
use Rattle.bmp_elim.proofs.KeptColumnLemmas.{kept_late}
use Rattle.bmp_graph.specs.Graph.{Graph}
use Rattle.bmp_sheaf.specs.Fields.{IsOverField}
use Rattle.bmp_sheaf.specs.Sheaves.{SheafData, boundary_of_tuple}
use Rattle.bmp_sheaf.specs.Coordinates.{stalk_count, boundary_count}
use Rattle.bmp_sheaf.specs.Numbers.{boundary_number, boundary_matrix}
use Rattle.bmp_sheaf.proofs.BoundaryNumbers.{boundary_number_below}
use Rattle.bmp_sheaf.proofs.BoundaryMaps.{boundary_image}
use Rattle.bmp_math.proofs.SameMatrices.{image_same, combination_same}
use Rattle.bmp_sections.specs.TupleLists.{TupleList, tuples_in}
use Rattle.bmp_cover.specs.Evidence.{combined_tuple, generator_place}
use Rattle.bmp_cover.specs.CoverChecks.{source_place, CoverCompares, CoverPasses}
use Rattle.bmp_cover.proofs.CompareLemmas.{single_boundary}
use Rattle.bmp_cover.proofs.CoverSides.{all_pass, cover_left, cover_right, source_left, source_right, dual_left}
use Rattle.bmp_stalk.specs.Blocks.{IsJoinedBoundary, HasKeptBoundary, IsReadOff, ChosenColumnsPass}

unit_small : (p i j : ℕ) → 2 ≤ p → unit i j < p
unit_small p i j two =
    elim (cases_eq i j) [
      | inl same ↦ let one : unit i j ≡ 1 = cond-true {A = ℕ} (eqb i j) 1 0 (eq-eqb i j same) in omega arith
      | inr other ↦ let none : unit i j ≡ 0 = cond-false {A = ℕ} (eqb i j) 1 0 (ne_eqb i j other) in omega arith
    ]

-- what a block is about, and what was made for it
pub record IsChosenBlock (G : Graph) (F : SheafData) (x d : ℕ) (list : TupleList) (split : ℕ) (o : Matrix)
    (chosen : List ℕ) (e : CoverEvidence) : Type 0 where
  pub over : IsOverField G
  pub joined : IsJoinedBoundary G F x d list split o
  pub kept : HasKeptBoundary G F x d split o chosen
  pub read : IsReadOff G.prime split o chosen e

module _ {G : Graph} {F : SheafData} {x d : ℕ} {list : TupleList} {split : ℕ} {o : Matrix} {chosen : List ℕ}
    {e : CoverEvidence} (h : IsChosenBlock G F x d list split o chosen e) where
  abbrev K : Matrix
  K = kept_columns split chosen o

  abbrev B : Matrix
  B = boundary_matrix G F x d

  tuple_number : (j k : ℕ) → j < list.count → k < boundary_count G F x d →
      o.entry k (split + j) % G.prime ≡ cover_right G F x d list e j k
  tuple_number j k within below =
      ap (λ z. z % G.prime) (h.joined.of_tuples j k within below)
      ∙ mod-eq_of_lt (boundary_number_below G F x d h.over (boundary_of_tuple G (tuples_in G F d list j)) k)

  -- the boundary of a cover is that of its tuple
  cover_equal : (j k : ℕ) → j < list.count → k < boundary_count G F x d →
      cover_left G F x d list e j k ≡ cover_right G F x d list e j k
  cover_equal j k within below =
      let is : j < length e.covers = omega (arith, within, h.read.covers.one_for_each, h.joined.cols) in
      let row : k < o.rows = omega (arith, below, h.joined.rows) in
      sym (boundary_image G h.over F x d (vector_at e.covers j) k below)
      ∙ ap (λ z. z % G.prime) (sym (image_same h.kept.boundary (vector_at e.covers j) k below))
      ∙ h.read.covers.each j is k row
      ∙ tuple_number j k within below

  -- a generator has the boundary of its tuple
  source_equal : (g k : ℕ) → g < length (F.degrees x) → slice_index (F.degrees x) g ≡ d → k < boundary_count G F x d →
      source_left G F x d list e g k ≡ source_right G F x d list e g k
  source_equal g k within is_new below =
      let s : ℕ = source_place F x d g in
      let j : ℕ = slice_index chosen (source_place F x d g) in
      let inside : s < length chosen = h.kept.number g within is_new in
      let column : split + s < B.cols = omega (arith, inside, h.kept.boundary.cols) in
      let tuple : j < list.count = omega (arith, h.read.columns.below s inside, h.joined.cols) in
      ap (B.entry k) (h.kept.own g within is_new)
      ∙ sym (h.kept.boundary.entries k (split + s) below column)
      ∙ ap (o.entry k) (kept_late split chosen s)
      ∙ h.joined.of_tuples j k tuple below
      ∙ sym (single_boundary G h.over F x d (tuples_in G F d list) list.count j tuple k below)
      ∙ ap (λ v. boundary_number G F x d
      (boundary_of_tuple G (combined_tuple (number_at v) (tuples_in G F d list) list.count)) k)
      (sym (h.read.sources.each s inside))

  -- a dual form is 1 on the generator's own coordinate, and 0 on the others
  dual_equal : (g j : ℕ) → g < length (F.degrees x) → slice_index (F.degrees x) g ≡ d →
      j < stalk_count G.rank (F.degrees x) d → dual_left G F x d list e g j ≡ unit (generator_place G F x d g) j
  dual_equal g j within is_new below =
      let s : ℕ = source_place F x d g in
      let inside : s < length chosen = h.kept.number g within is_new in
      let column : j < split + length chosen = omega (arith, below, h.kept.boundary.cols) in
      ap (λ z. z % G.prime) (sym (combination_same h.kept.boundary (vector_at e.duals s) j below))
      ∙ h.read.duals.each s j inside column
      ∙ mod-eq_of_lt (unit_small G.prime (split + s) j h.over.two)
      ∙ ap (λ z. unit z j) (sym (h.kept.own g within is_new))

  pub block_passes : CoverPasses (CoverCompares G F x d list e)
  block_passes =
      all_pass G F x d list e
      (λ r c. c.left_is ∙ cover_equal r.index r.place c.tuple c.place ∙ sym c.right_is)
      (λ r c. c.left_is ∙ source_equal r.index r.place c.generator c.degree c.place ∙ sym c.right_is)
      (λ r c. c.left_is ∙ dual_equal r.index r.place c.generator c.degree c.place ∙ sym c.right_is)

pub chosen_columns_pass : ChosenColumnsPass
chosen_columns_pass G F x d list split o chosen e over joined kept read =
    block_passes (record { over = over; joined = joined; kept = kept; read = read })
