-- Evidence in numbers to what it says of sections and elements: a basis of the kernel of the equations gives tuples
-- that catch all boundaries, equal boundary numbers are covers and sources, and dual forms give minimality.
use Rattle.std.proofs.Common.{◌≡◌, ℕ, ◌*◌, ◌%◌, ◌<◌, ◌≤◌, Bool, true, eqb, length, refl, sym, ap, ap₂, subst, ◌∙◌, inl, inr, arith, eq-eqb, ne_eqb}
use Rattle.std.specs.Prelude.{slice_index}
use Rattle.std.proofs.Math.Nat.{mod-mod, mod-eq_of_lt}
use Rattle.std.proofs.lemmas.Bool.{cases_eq, cond-true, cond-false}
use Rattle.bmp_math.specs.Congruences.{SameMod}
use Rattle.bmp_math.specs.Vectors.{SameVector, unit, dot}
use Rattle.bmp_math.specs.Matrices.{combination, image, IsInKernel}
use Rattle.bmp_math.proofs.CongruenceLemmas.{same_mul, mul_zero}
use Rattle.bmp_math.proofs.SumLemmas.{sum_same_mod, sum_zero_mod}
use Rattle.bmp_math.proofs.MatrixLemmas.{dot-combination, image-unit}
use Rattle.bmp_linear.specs.declared.evidence.KernelEvidence.{KernelEvidence}
use Rattle.bmp_linear.specs.FreePlaces.{free_places}
use Rattle.bmp_linear.specs.Evidence.{vector_at}
use Rattle.bmp_linear.specs.KernelChecks.{IsSpanned}
use Rattle.bmp_poly.specs.Exponents.{IsMonomial, zeros}
use Rattle.bmp_poly.proofs.ProductLemmas.{constant_is_one}
use Rattle.bmp_graph.specs.Graph.{Graph, IsAbove, vertex_count, edge_count, upper}
use Rattle.bmp_graph.specs.Graph.IsAbove.{edge}
use Rattle.bmp_sheaf.specs.Fields.{IsOverField}
use Rattle.bmp_sheaf.specs.Units.{unit_element}
use Rattle.bmp_sheaf.specs.Elements.{Element, HasComponent, SameElement, zero_element}
use Rattle.bmp_sheaf.specs.Sheaves.{SheafData, Tuple, boundary_of_element, boundary_of_tuple}
use Rattle.bmp_sheaf.specs.Coordinates.{stalk_count, stalk_place, element_of, boundary_count}
use Rattle.bmp_sheaf.specs.Numbers.{unit_at, boundary_number, boundary_matrix}
use Rattle.bmp_sheaf.proofs.StalkPlaces.{stalk_place_below}
use Rattle.bmp_sheaf.proofs.Components.{stalk_place_once}
use Rattle.bmp_sheaf.proofs.StalkNumbers.{stalk_number, stalk_number_at, element_of_numbers}
use Rattle.bmp_sheaf.proofs.EdgeLabels.{label_leads}
use Rattle.bmp_sheaf.proofs.ElementLaws.{same_turned, same_chained}
use Rattle.bmp_sheaf.proofs.LiftLaws.{lift_same}
use Rattle.bmp_sheaf.proofs.BoundaryNumbers.{boundary_numbers_same, same_boundary_numbers, boundary_number_respects, boundary_number_below, boundary_number-zero, boundary_number-combination}
use Rattle.bmp_sheaf.proofs.BoundaryMaps.{boundary_image}
use Rattle.bmp_sections.specs.Sections.{IsSection, above, IsMinimal}
use Rattle.bmp_sections.specs.Positions.{position_count, tuple_of}
use Rattle.bmp_sections.specs.Numbers.{is_above, equation_matrix}
use Rattle.bmp_sections.proofs.AboveLemmas.{test_from_above}
use Rattle.bmp_sections.proofs.BoundaryLaws.{boundary_same}
use Rattle.bmp_sections.proofs.PositionLemmas.{position_number, tuple_of_positions, tuple_of_same}
use Rattle.bmp_sections.proofs.EquationNumbers.{HasEquation, has_equation, equation_same, equations_vanish, section_of_equations, section_by_test, section_from_test, image_is_equation}
use Rattle.bmp_cover.specs.Evidence.{combined_tuple, CatchAll, AreSections, AreCovers, HaveSources, generator_place, HaveDuals}
use Rattle.bmp_cover.proofs.ExampleLemmas.{one_monomial}

module _ (G : Graph) (F : SheafData) (x d : ℕ) (over : IsOverField G) where
  abbrev U : ℕ → Bool
  U = is_above G x

  some : 0 < G.prime
  some = omega (arith, over.two)

  zero_is : 0 % G.prime ≡ 0
  zero_is = mod-eq_of_lt some

  -- the labels have at most six variables, where there is one
  wide : (e : ℕ) → e < edge_count G → G.rank ≤ 6
  wide e is_edge = (label_leads G over e is_edge).rank

  -- numbers that the equations send to zero are those of a section over the vertices above x
  pub section_of_kernel : (v : ℕ → ℕ) → IsInKernel G.prime (equation_matrix G F x d) v →
      IsSection G F (above G x) d (tuple_of G F U d v)
  section_of_kernel v kernel =
      section_from_test G F x d over (tuple_of G F U d v)
      (section_of_equations G F U d over (tuple_of G F U d v) (λ k below. sym (image_is_equation G F x d over v k below)
      ∙ kernel k below ∙ zero_is))

  -- and the numbers of a section are sent to zero
  pub kernel_of_section : (s : Tuple) → IsSection G F (above G x) d s →
      IsInKernel G.prime (equation_matrix G F x d) (position_number G F U d s)
  kernel_of_section s section k below =
      let at : HasEquation G F U d k = has_equation G F U d k below in
      let t = position_number G F U d s in
      image_is_equation G F x d over t k below
      ∙ equation_same G F U d over (tuple_of G F U d t) s
      (λ y is_vertex here. tuple_of_positions G F U d s y (wide at.edge at.is_edge) is_vertex here) k below
      ∙ equations_vanish G F U d over s (section_by_test G F x d over s section) k below
      ∙ sym zero_is

  module _ (e : KernelEvidence) where
    -- the tuple of the j-th basis vector
    abbrev pub basis_tuple : ℕ → Tuple
    basis_tuple j = tuple_of G F U d (vector_at e.basis j)

    -- the number of s at the j-th free position
    abbrev pub free_number : Tuple → ℕ → ℕ
    free_number s j = position_number G F U d s (slice_index (free_places e.pivots (position_count G F U d)) j)

    pub evidence_sections :
        ((j : ℕ) → j < length e.basis → IsInKernel G.prime (equation_matrix G F x d) (vector_at e.basis j)) →
        AreSections G F x d basis_tuple (length e.basis)
    evidence_sections kernel j below = section_of_kernel (vector_at e.basis j) (kernel j below)

    module _ (spans : (v : ℕ → ℕ) → IsInKernel G.prime (equation_matrix G F x d) v →
        IsSpanned G.prime (equation_matrix G F x d).cols e v) where
      -- a section is the combination of the basis with its own numbers at the free positions, position by position
      pub section_is_spanned : (s : Tuple) → IsSection G F (above G x) d s →
          SameVector G.prime (position_count G F U d) (position_number G F U d s)
          (combination (free_number s) (vector_at e.basis) (length e.basis))
      section_is_spanned s section = spans (position_number G F U d s) (kernel_of_section s section)

      -- and so at each vertex above x
      pub section_is_combined : (s : Tuple) → IsSection G F (above G x) d s → (y : ℕ) → G.rank ≤ 6 →
          y < vertex_count G → is_above G x y ≡ true →
          SameElement G.prime G.rank (F.degrees y) d (s y)
          (combined_tuple (free_number s) basis_tuple (length e.basis) y)
      section_is_combined s section y small is_vertex here =
          let t = position_number G F U d s in
          let c = combination (free_number s) (vector_at e.basis) (length e.basis) in
          same_chained G.prime G.rank (F.degrees y) d (s y) (tuple_of G F U d t y) (tuple_of G F U d c y)
          (same_turned G.prime G.rank (F.degrees y) d (tuple_of G F U d t y) (s y)
          (tuple_of_positions G F U d s y small is_vertex here))
          (tuple_of_same G F U d t c y small is_vertex here (section_is_spanned s section))

      pub evidence_catches : CatchAll G F x d basis_tuple (length e.basis)
      evidence_catches s section = (
        free_number s,
        boundary_same G F x d (boundary_of_tuple G s)
            (boundary_of_tuple G (combined_tuple (free_number s) basis_tuple (length e.basis)))
            (λ f is_edge starts.
            section_is_combined s section (upper G f) (wide f is_edge) (over.is_graph.ends f is_edge).1
            (test_from_above G over.is_graph x (upper G f)
            (subst (λ y. IsAbove G (upper G f) y) starts (edge f is_edge refl)))),
      )

  -- elements and tuples with the same boundary numbers
  pub numbers_are_covers :
      (t : ℕ → Tuple) (n : ℕ) (u : ℕ → Element) →
      ((j : ℕ) → j < n → (k : ℕ) → k < boundary_count G F x d →
      boundary_number G F x d (boundary_of_element G F d (u j)) k ≡ boundary_number G F x d
      (boundary_of_tuple G (t j)) k) →
      AreCovers G F x d t n u
  numbers_are_covers t n u same j below =
      same_boundary_numbers G F x d over (boundary_of_element G F d (u j)) (boundary_of_tuple G (t j)) (same j below)

  -- the boundary numbers of a combination of tuples
  pub combined_boundary : (a : ℕ → ℕ) (t : ℕ → Tuple) (n k : ℕ) → k < boundary_count G F x d →
      boundary_number G F x d (boundary_of_tuple G (combined_tuple a t n)) k
      ≡ combination a (λ j. boundary_number G F x d (boundary_of_tuple G (t j))) n k % G.prime
  combined_boundary a t n k below =
      sym (mod-eq_of_lt (boundary_number_below G F x d over (boundary_of_tuple G (combined_tuple a t n)) k))
      ∙ boundary_number-combination G F x d over a (λ j. boundary_of_tuple G (t j)) n k below

  pub numbers_are_sources :
      (t : ℕ → Tuple) (n : ℕ) →
      ((g : ℕ) → g < length (F.degrees x) → slice_index (F.degrees x) g ≡ d → (a : ℕ → ℕ) ×
      ((k : ℕ) → k < boundary_count G F x d →
      boundary_number G F x d (boundary_of_element G F d (unit_element g)) k
      ≡ combination a (λ j. boundary_number G F x d (boundary_of_tuple G (t j))) n k % G.prime)) →
      HaveSources G F x d t n
  numbers_are_sources t n same g below is_new =
      let source = same g below is_new in (
        source.0,
        same_boundary_numbers G F x d over (boundary_of_element G F d (unit_element g))
            (boundary_of_tuple G (combined_tuple source.0 t n))
            (λ k inside. source.1 k inside ∙ sym (combined_boundary source.0 t n k inside)),
      )

  has_constant : (g : ℕ) → g < length (F.degrees x) → slice_index (F.degrees x) g ≡ d → HasComponent (F.degrees x) d g 0
  has_constant g below is_new = (below, omega (arith, is_new))

  pub generator_place_below : (g : ℕ) → G.rank ≤ 6 → g < length (F.degrees x) → slice_index (F.degrees x) g ≡ d →
      generator_place G F x d g < stalk_count G.rank (F.degrees x) d
  generator_place_below g small below is_new =
      stalk_place_below 6 G.rank d g 0 (F.degrees x) (zeros 6) small (has_constant g below is_new) (one_monomial G.rank)

  pub generator_is_unit : (g : ℕ) → G.rank ≤ 6 → g < length (F.degrees x) → slice_index (F.degrees x) g ≡ d →
      SameElement G.prime G.rank (F.degrees x) d (unit_element g)
      (unit_at G.rank (F.degrees x) d (generator_place G F x d g))
  generator_is_unit g small below is_new h s has m is = ap (λ z. z % G.prime) (elim (cases_eq h g) [
    | inl same ↦
        let degree : slice_index (F.degrees x) h ≡ d = ap (slice_index (F.degrees x)) same ∙ is_new in
        let constant : s ≡ 0 = omega (arith, has.1, degree) in
        let one : m ≡ zeros 6 = constant_is_one G.rank m small (subst (λ k. IsMonomial 6 G.rank k m) constant is) in
        let places : generator_place G F x d g ≡ stalk_place G.rank (F.degrees x) d h m =
        ap₂ (stalk_place G.rank (F.degrees x) d) (sym same) (sym one) in
        cond-true {A = ℕ} (eqb h g) 1 0 (eq-eqb h g same)
        ∙ sym (cond-true {A = ℕ} (eqb (generator_place G F x d g) (stalk_place G.rank (F.degrees x) d h m)) 1 0
        (eq-eqb (generator_place G F x d g) (stalk_place G.rank (F.degrees x) d h m) places))
    | inr other ↦
        let apart : generator_place G F x d g ≡ stalk_place G.rank (F.degrees x) d h m → ⊥ =
        λ same. other (sym
        (stalk_place_once G.rank d (F.degrees x) small g h 0 s (zeros 6) m (has_constant g below is_new) has
        (one_monomial G.rank) is same).0) in
        cond-false {A = ℕ} (eqb h g) 1 0 (ne_eqb h g other)
        ∙ sym (cond-false {A = ℕ} (eqb (generator_place G F x d g) (stalk_place G.rank (F.degrees x) d h m)) 1 0
        (ne_eqb (generator_place G F x d g) (stalk_place G.rank (F.degrees x) d h m) apart))
  ])

  -- elements that are the same have the same boundary numbers
  boundary_of_same : (u v : Element) → G.rank ≤ 6 → SameElement G.prime G.rank (F.degrees x) d u v →
      (k : ℕ) → k < boundary_count G F x d → boundary_number G F x d (boundary_of_element G F d u) k
      ≡ boundary_number G F x d (boundary_of_element G F d v) k
  boundary_of_same u v small same =
      boundary_number_respects G F x d over (boundary_of_element G F d u) (boundary_of_element G F d v)
      (λ e is_edge starts. lift_same G F e d u v small
      (subst (λ y. SameElement G.prime G.rank (F.degrees y) d u v) (sym starts) same))

  -- its boundary stands in the column of its place
  pub generator_column : (g : ℕ) → G.rank ≤ 6 → g < length (F.degrees x) → slice_index (F.degrees x) g ≡ d →
      (k : ℕ) → k < boundary_count G F x d → boundary_number G F x d (boundary_of_element G F d (unit_element g)) k
      ≡ (boundary_matrix G F x d).entry k (generator_place G F x d g)
  generator_column g small below is_new =
      boundary_of_same (unit_element g) (unit_at G.rank (F.degrees x) d (generator_place G F x d g)) small
      (generator_is_unit g small below is_new)

  pub duals_give_minimality : G.rank ≤ 6 → HaveDuals G F x d → IsMinimal G F x d
  duals_give_minimality small duals = record {
    minimal = λ u vanishes g below is_new.
        let a = boundary_matrix G F x d in
        let n = stalk_count G.rank (F.degrees x) d in
        let v = stalk_number G.rank (F.degrees x) d u in
        let form : ℕ → ℕ = (duals g below is_new).0 in
        let w = combination form a.entry a.rows in
        let at = generator_place G F x d g in
        let value : dot (stalk_count G.rank (F.degrees x) d) (unit (generator_place G F x d g)) v
        ≡ v (generator_place G F x d g) =
        image-unit (record { rows = 1; cols = n; entry = λ i. v }) at 0 (generator_place_below g small below is_new) in
        let picked : SameMod G.prime (dot (stalk_count G.rank (F.degrees x) d) w v)
        (dot (stalk_count G.rank (F.degrees x) d) (unit (generator_place G F x d g)) v) =
        sum_same_mod G.prime (λ j. w j * v j) (λ j. unit at j * v j) n
        (λ j inside. same_mul G.prime (w j) (unit at j) (v j) (v j)
        (sym (mod-mod (w j) G.prime) ∙ ap (λ z. z % G.prime) ((duals g below is_new).1 j inside)) refl) in
        let none : SameMod G.prime (dot a.rows form (image a v)) 0 =
        sum_zero_mod G.prime (λ k. form k * image a v k) a.rows (λ k inside. mul_zero G.prime (form k) (image a v k)
        (boundary_image G over F x d v k inside
        ∙ boundary_of_same (element_of G.rank (F.degrees x) d v) u small
        (element_of_numbers G.rank (F.degrees x) d G.prime u small) k inside
        ∙ boundary_numbers_same G F x d over (boundary_of_element G F d u) (λ e. zero_element) vanishes k inside
        ∙ boundary_number-zero G F x d over k inside
        ∙ sym zero_is)) in
        ap (λ z. z % G.prime)
        (sym (stalk_number_at G.rank (F.degrees x) d u g 0 (zeros 6) small (has_constant g below is_new)
        (one_monomial G.rank)) ∙ sym value)
        ∙ sym picked
        ∙ ap (λ z. z % G.prime) (dot-combination a form v)
        ∙ none;
  }
