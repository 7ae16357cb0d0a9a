-- What is said of a vertex rests on its own stalk, on its lifts and on the degrees at the upper ends of its edges.
use Rattle.std.proofs.Common.{◌≡◌, ℕ, ◌+◌, ◌-◌, ◌*◌, ◌%◌, ◌<◌, List, cond, eqb, take, sym, ap, subst, ◌∙◌, inl, inr, arith, ne_eqb, length}
use Rattle.std.specs.Prelude.{count_by, slice_index}
use Rattle.std.proofs.lemmas.Bool.{cases_eq, cond-false}
use Rattle.bmp_math.specs.Blocks.{block_start, joined}
use Rattle.bmp_math.specs.Matrices.{SameMatrix, combination}
use Rattle.bmp_math.specs.Sums.{sum_below}
use Rattle.bmp_math.specs.Vectors.{unit}
use Rattle.bmp_math.proofs.BlockLemmas.{InBlock, block_of, joined_is}
use Rattle.bmp_math.proofs.SameMatrices.{combination_same}
use Rattle.bmp_math.proofs.SumLemmas.{sum_below_same}
use Rattle.bmp_poly.specs.Exponents.{zeros}
use Rattle.bmp_graph.specs.Graph.{Graph, edge_count, lower, upper, label}
use Rattle.bmp_linear.specs.declared.evidence.CoverEvidence.{CoverEvidence}
use Rattle.bmp_linear.specs.Evidence.{vector_at}
use Rattle.bmp_sheaf.specs.Elements.{Element, extension}
use Rattle.bmp_sheaf.specs.Sheaves.{SheafData, Boundary, boundary_of_element}
use Rattle.bmp_sheaf.specs.Coordinates.{stalk_count, stalk_place, element_of, edge_module_count, leading, boundary_count}
use Rattle.bmp_sheaf.specs.Numbers.{edge_number, on_edge, boundary_number, boundary_matrix}
use Rattle.bmp_sections.specs.TupleLists.{TupleList}
use Rattle.bmp_cover.specs.Counts.{generators_in}
use Rattle.bmp_cover.specs.CoverChecks.{ComparesCover, ComparesSource, ComparesDual, CoverCompares, source_place}
use Rattle.bmp_cover.specs.Evidence.{generator_place}
use Rattle.bmp_cover.specs.declared.fault.CoverFault.{CoverFault}

-- ---- numbers in blocks of the same sizes

module _ (size size' : ℕ → ℕ) (f g : ℕ → ℕ → ℕ) (n : ℕ) (sizes : (b : ℕ) → b < n → size b ≡ size' b)
    (each : (b i : ℕ) → b < n → i < size b → f b i ≡ g b i) where
  abbrev in_same_block : (k : ℕ) → InBlock size n k → InBlock size' n k
  in_same_block k at = record {
    block = at.block;
    place = at.place;
    below = at.below;
    inside = subst (λ m. at.place < m) (sizes at.block at.below) at.inside;
    is = at.is ∙ ap (λ m. m + at.place)
        (sum_below_same size size' at.block (λ i l. sizes i (omega (arith, l, at.below))));
  }

  pub joined_alike : (k : ℕ) → k < block_start size n → joined size f n k ≡ joined size' g n k
  joined_alike k below =
      let at : InBlock size n k = block_of size n k below in
      joined_is size f n k at ∙ each at.block at.place at.below at.inside
      ∙ sym (joined_is size' g n k (in_same_block k at))

-- ---- sheaves that agree at a vertex

pub record AgreeAt (G : Graph) (x : ℕ) (F F' : SheafData) : Type 0 where
  pub own : F.degrees x ≡ F'.degrees x
  pub upper_ends : (e : ℕ) → e < edge_count G → lower G e ≡ x → F.degrees (upper G e) ≡ F'.degrees (upper G e)
  pub lifts : (e : ℕ) → e < edge_count G → lower G e ≡ x → F.lift e ≡ F'.lift e

module _ {G : Graph} {x : ℕ} {F F' : SheafData} (agree : AgreeAt G x F F') (d : ℕ) where
  sizes_agree : (e : ℕ) → e < edge_count G →
      cond (eqb (lower G e) x) (edge_module_count G F d e) 0 ≡ cond (eqb (lower G e) x) (edge_module_count G F' d e) 0
  sizes_agree e below = elim (cases_eq (lower G e) x) [
    | inl here ↦
        ap (λ b. cond (eqb (lower G e) x) (stalk_count (G.rank - 1) b d) 0) (agree.upper_ends e below here)
    | inr other ↦
        cond-false {A = ℕ} (eqb (lower G e) x) (edge_module_count G F d e) 0 (ne_eqb (lower G e) x other)
        ∙ sym (cond-false {A = ℕ} (eqb (lower G e) x) (edge_module_count G F' d e) 0 (ne_eqb (lower G e) x other))
  ]

  pub counts_agree : boundary_count G F x d ≡ boundary_count G F' x d
  counts_agree =
      sum_below_same (λ e. cond (eqb (lower G e) x) (edge_module_count G F d e) 0)
      (λ e. cond (eqb (lower G e) x) (edge_module_count G F' d e) 0) (edge_count G) sizes_agree

  -- the numbers of coordinates and of generators, back
  pub own_count : stalk_count G.rank (F'.degrees x) d ≡ stalk_count G.rank (F.degrees x) d
  own_count = ap (λ o. stalk_count G.rank o d) (sym agree.own)

  pub own_boundary : boundary_count G F' x d ≡ boundary_count G F x d
  own_boundary = sym counts_agree

  pub own_generators : generators_in F' x d ≡ generators_in F x d
  own_generators = ap (λ o. count_by (λ e. eqb e d) o) (sym agree.own)

  -- a place on an edge is on one that goes up from x
  from_here : (e i : ℕ) → i < cond (eqb (lower G e) x) (edge_module_count G F d e) 0 → lower G e ≡ x
  from_here e i inside = elim (cases_eq (lower G e) x) [
    | inl here ↦ here
    | inr other ↦ absurd
        (let none : cond (eqb (lower G e) x) (edge_module_count G F d e) 0 ≡ 0 =
        cond-false {A = ℕ} (eqb (lower G e) x) (edge_module_count G F d e) 0 (ne_eqb (lower G e) x other) in
        omega (arith, inside, none))
  ]

  boundaries_agree :
      (b b' : Boundary) →
      ((e i : ℕ) → e < edge_count G → lower G e ≡ x → on_edge G F d e (b e) i ≡ on_edge G F' d e (b' e) i) →
      (k : ℕ) → k < boundary_count G F x d → boundary_number G F x d b k ≡ boundary_number G F' x d b' k
  boundaries_agree b b' each k below =
      joined_alike (λ e. cond (eqb (lower G e) x) (edge_module_count G F d e) 0)
      (λ e. cond (eqb (lower G e) x) (edge_module_count G F' d e) 0) (λ e. on_edge G F d e (b e))
      (λ e. on_edge G F' d e (b' e)) (edge_count G) sizes_agree
      (λ e i is_edge inside. each e i is_edge (from_here e i inside)) k below

  -- the boundary of the element with the numbers v, of the stalk at x
  pub elements_agree :
      (v : ℕ → ℕ) (k : ℕ) → k < boundary_count G F x d →
      boundary_number G F x d (boundary_of_element G F d (element_of G.rank (F.degrees x) d v)) k
      ≡ boundary_number G F' x d (boundary_of_element G F' d (element_of G.rank (F'.degrees x) d v)) k
  elements_agree v k below =
      boundaries_agree (boundary_of_element G F d (element_of G.rank (F.degrees x) d v))
      (boundary_of_element G F' d (element_of G.rank (F'.degrees x) d v))
      (λ e i is_edge here.
      let own : F.degrees (lower G e) ≡ F'.degrees (lower G e) =
      ap F.degrees here ∙ agree.own ∙ sym (ap F'.degrees here) in
      let made : List ℕ → List ℕ → (ℕ → Element) → List ℕ → ℕ =
      λ a b images o. edge_number G.prime G.rank (label G e) (leading G e) b d
      (extension G.rank a images d (element_of G.rank o d v)) i in
      ap (λ a. made a (F.degrees (upper G e)) (F.lift e) (F.degrees x)) own
      ∙ ap (λ b. made (F'.degrees (lower G e)) b (F.lift e) (F.degrees x)) (agree.upper_ends e is_edge here)
      ∙ ap (λ images. made (F'.degrees (lower G e)) (F'.degrees (upper G e)) images (F.degrees x))
      (agree.lifts e is_edge here)
      ∙ ap (made (F'.degrees (lower G e)) (F'.degrees (upper G e)) (F'.lift e)) agree.own) k below

  -- the boundary of a tuple, whose values are made of the degrees
  pub tuples_agree :
      (value : ℕ → List ℕ → Element) (k : ℕ) → k < boundary_count G F x d →
      boundary_number G F x d (λ e. value (upper G e) (F.degrees (upper G e))) k
      ≡ boundary_number G F' x d (λ e. value (upper G e) (F'.degrees (upper G e))) k
  tuples_agree value k below =
      boundaries_agree (λ e. value (upper G e) (F.degrees (upper G e)))
      (λ e. value (upper G e) (F'.degrees (upper G e)))
      (λ e i is_edge here.
      ap (λ b. edge_number G.prime G.rank (label G e) (leading G e) b d (value (upper G e) b) i)
      (agree.upper_ends e is_edge here)) k below

  pub matrices_agree : SameMatrix (boundary_matrix G F x d) (boundary_matrix G F' x d)
  matrices_agree = record {
    rows = counts_agree;
    cols = ap (λ b. stalk_count G.rank b d) agree.own;
    entries = λ k j row column. elements_agree (unit j) k (subst (λ n. k < n) (sym counts_agree) row);
  }

  -- ---- the comparisons of covers, sources and dual forms

  module _ (list : TupleList) (e : CoverEvidence) (r : CoverFault) where
    place_agrees : source_place F x d r.index ≡ source_place F' x d r.index
    place_agrees = ap (λ o. count_by (λ a. eqb a d) (take r.index o)) agree.own

    generator_agrees : generator_place G F x d r.index ≡ generator_place G F' x d r.index
    generator_agrees = ap (λ o. stalk_place G.rank o d r.index (zeros 6)) agree.own

    cover_agrees : ComparesCover G F x d list e r → ComparesCover G F' x d list e r
    cover_agrees h = record {
      kind = h.kind;
      tuple = h.tuple;
      place = subst (λ n. r.place < n) counts_agree h.place;
      left_is = h.left_is ∙ elements_agree (vector_at e.covers r.index) r.place h.place;
      right_is =
          h.right_is ∙ tuples_agree (λ y b. element_of G.rank b d (list.value r.index y)) r.place h.place;
    }

    source_agrees : ComparesSource G F x d list e r → ComparesSource G F' x d list e r
    source_agrees h = record {
      kind = h.kind;
      generator = subst (λ o. r.index < length o) agree.own h.generator;
      degree = subst (λ o. slice_index o r.index ≡ d) agree.own h.degree;
      place = subst (λ n. r.place < n) counts_agree h.place;
      left_is =
          h.left_is ∙ elements_agree (unit (generator_place G F x d r.index)) r.place h.place
          ∙ ap (λ n. boundary_number G F' x d
          (boundary_of_element G F' d (element_of G.rank (F'.degrees x) d (unit n))) r.place) generator_agrees;
      right_is =
          h.right_is
          ∙ tuples_agree (λ y b g m. sum_below
          (λ j. vector_at e.sources (source_place F x d r.index) j * element_of G.rank b d (list.value j y) g m)
          list.count) r.place h.place
          ∙ ap (λ n. boundary_number G F' x d (λ f g m. sum_below
          (λ j. vector_at e.sources n j * element_of G.rank (F'.degrees (upper G f)) d (list.value j (upper G f)) g m)
          list.count) r.place) place_agrees;
    }

    dual_agrees : ComparesDual G F x d e r → ComparesDual G F' x d e r
    dual_agrees h =
        let column : r.place < stalk_count G.rank (F'.degrees x) d =
        subst (λ o. r.place < stalk_count G.rank o d) agree.own h.place in
        record {
          kind = h.kind;
          generator = subst (λ o. r.index < length o) agree.own h.generator;
          degree = subst (λ o. slice_index o r.index ≡ d) agree.own h.degree;
          place = column;
          left_is =
              h.left_is
              ∙ ap (λ n. n % G.prime)
              (combination_same matrices_agree (vector_at e.duals (source_place F x d r.index)) r.place column
              ∙ ap (λ n. combination (vector_at e.duals n) (boundary_matrix G F' x d).entry
              (boundary_count G F' x d) r.place) place_agrees);
          right_is = h.right_is ∙ ap (λ n. unit n r.place) generator_agrees;
        }

    pub comparisons_agree_at : CoverCompares G F x d list e r → CoverCompares G F' x d list e r
    comparisons_agree_at (inl h) = inl (cover_agrees h)
    comparisons_agree_at (inr (inl h)) = inr (inl (source_agrees h))
    comparisons_agree_at (inr (inr h)) = inr (inr (dual_agrees h))
