-- Boundaries of combinations of tuples, edge by edge.
use Rattle.std.proofs.Common.{◌≡◌, ◌≢◌, ℕ, ◌+◌, ◌*◌, ◌%◌, ◌<◌, ◌≤◌, ◌-◌, List, [], ◌∷◌, get_or, eqb, eq-eqb, ne_eqb, refl, sym, ap, ◌∙◌, inl, inr, arith}
use Rattle.std.specs.List.{sum_by}
use Rattle.std.specs.Prelude.{slice_index}
use Rattle.std.proofs.Math.Nat.{mod-mod}
use Rattle.std.proofs.lemmas.Bool.{cond-true, cond-false, cases_lt}
use Rattle.bmp_math.specs.Sums.{sum_below}
use Rattle.bmp_math.specs.Matrices.{combination}
use Rattle.bmp_math.proofs.SumLemmas.{sum_below_same, sum_below_only}
use Rattle.bmp_linear.specs.declared.vector.Entry.{Entry}
use Rattle.bmp_linear.specs.SparseVectors.{number_at}
use Rattle.bmp_linear.proofs.SparseLemmas.{sum_by-number_at}
use Rattle.bmp_graph.specs.Graph.{Graph, edge_count, lower, upper}
use Rattle.bmp_sheaf.specs.Fields.{IsOverField}
use Rattle.bmp_sheaf.specs.Sheaves.{SheafData, Tuple, boundary_of_tuple}
use Rattle.bmp_sheaf.specs.Coordinates.{stalk_count, element_of, edge_module_count, boundary_start, boundary_count}
use Rattle.bmp_sheaf.specs.Numbers.{on_edge, upper_matrix, boundary_number}
use Rattle.bmp_sheaf.proofs.EdgeLabels.{label_leads}
use Rattle.bmp_sheaf.proofs.OnEdge.{on_edge_respects}
use Rattle.bmp_sheaf.proofs.EdgeMaps.{element_respects, upper_image}
use Rattle.bmp_sheaf.proofs.BoundaryNumbers.{boundary_number_at, boundary_number_respects}
use Rattle.bmp_sections.specs.TupleLists.{TupleList, tuples_in}
use Rattle.bmp_sections.proofs.EquationParts.{IsTableRow}
use Rattle.bmp_cover.specs.Evidence.{combined_tuple}
use Rattle.bmp_cover.specs.declared.compare.Difference.{Difference}
use Rattle.bmp_cover.specs.Differences.{IsFirstDifference}
use Rattle.bmp_cover.proofs.FaultLemmas.{AgreeBelow}

module _ (G : Graph) (over : IsOverField G) (F : SheafData) (d e : ℕ) (is_edge : e < edge_count G) where
  -- what a row of the upper map says of numbers in memory
  pub edge_value :
      (i : ℕ) (es : List Entry) (second : List ℕ) (value : ℕ) → i < edge_module_count G F d e →
      IsTableRow G.prime (upper_matrix G F d e) i es →
      value ≡ sum_by (λ n. n.value * get_or second n.place 0) es % G.prime →
      value ≡ on_edge G F d e (element_of G.rank (F.degrees (upper G e)) d (slice_index second)) i
  edge_value i es second value inside row is =
      let a = upper_matrix G F d e in
      is
      ∙ ap (λ z. z % G.prime)
      (sum_by-number_at es a.cols (slice_index second) row.sparse.rising row.fits
      ∙ sum_below_same (λ j. number_at es j * slice_index second j) (λ j. slice_index second j * a.entry i j) a.cols
      (λ j l. ap (λ z. z * slice_index second j) (row.same j l) ∙ turned (a.entry i j) (slice_index second j)))
      ∙ upper_image G over F d e is_edge (slice_index second) i inside
    where
      turned : (x y : ℕ) → x * y ≡ y * x
      turned x y = omega arith

  -- the element with the combination of the tuples' coordinates at the upper end is the value of the combined tuple
  pub edge_combined :
      (list : TupleList) (c : ℕ → ℕ) (second : List ℕ) (i : ℕ) → i < edge_module_count G F d e →
      ((k : ℕ) → k < stalk_count G.rank (F.degrees (upper G e)) d →
      slice_index second k ≡ combination c (λ j. list.value j (upper G e)) list.count k % G.prime) →
      on_edge G F d e (element_of G.rank (F.degrees (upper G e)) d (slice_index second)) i
      ≡ on_edge G F d e (boundary_of_tuple G (combined_tuple c (tuples_in G F d list) list.count) e) i
  edge_combined list c second i inside combined =
      let values : ℕ → ℕ = combination c (λ j. list.value j (upper G e)) list.count in
      on_edge_respects G over F d e is_edge (element_of G.rank (F.degrees (upper G e)) d (slice_index second))
      (element_of G.rank (F.degrees (upper G e)) d values)
      (element_respects G.prime G.rank (F.degrees (upper G e)) d (slice_index second) values
      (label_leads G over e is_edge).rank
      (λ k l. ap (λ z. z % G.prime) (combined k l) ∙ mod-mod (values k) G.prime))
      i inside

-- the numbers of the vector that is 1 at one place
one_entry : (j i : ℕ) → i ≢ j → number_at (record { place = j; value = 1 } ∷ []) i ≡ 0
one_entry j i other = cond-false {A = ℕ} (eqb j i) 1 0 (ne_eqb j i (λ same. other (sym same)))

own_entry : (j : ℕ) → number_at (record { place = j; value = 1 } ∷ []) j ≡ 1
own_entry j = cond-true {A = ℕ} (eqb j j) 1 0 (eq-eqb j j refl)

module _ (G : Graph) (over : IsOverField G) (F : SheafData) (x d : ℕ) where
  -- the combination with the factor 1 at one tuple has its boundary
  pub single_boundary :
      (t : ℕ → Tuple) (n j : ℕ) → j < n → AgreeBelow (boundary_count G F x d)
      (boundary_number G F x d
      (boundary_of_tuple G (combined_tuple (number_at (record { place = j; value = 1 } ∷ [])) t n)))
      (boundary_number G F x d (boundary_of_tuple G (t j)))
  single_boundary t n j within =
      let c : ℕ → ℕ = number_at (record { place = j; value = 1 } ∷ []) in
      boundary_number_respects G F x d over (boundary_of_tuple G (combined_tuple c t n)) (boundary_of_tuple G (t j))
      (λ e is_edge starts g s has m is. ap (λ z. z % G.prime) (picked (λ i. t i (upper G e) g m)))
    where
      no_times : (a b : ℕ) → a ≡ 0 → a * b ≡ 0
      no_times a b none = omega (arith, none, ap (λ z. z * b) none)

      one_times : (a b : ℕ) → a ≡ 1 → a * b ≡ b
      one_times a b one = omega (arith, one, ap (λ z. z * b) one)

      picked : (f : ℕ → ℕ) → sum_below (λ i. number_at (record { place = j; value = 1 } ∷ []) i * f i) n ≡ f j
      picked f =
          sum_below_only (λ i. number_at (record { place = j; value = 1 } ∷ []) i * f i) n j within
          (λ i l other. no_times (number_at (record { place = j; value = 1 } ∷ []) i) (f i) (one_entry j i other))
          ∙ one_times (number_at (record { place = j; value = 1 } ∷ []) j) (f j) (own_entry j)

  -- one edge more in a comparison of boundaries
  module _ (left : ℕ → ℕ) (t : Tuple) (e start n : ℕ) (is_edge : e < edge_count G) (starts : lower G e ≡ x)
      (is_start : start ≡ boundary_start G F x d e) (is_n : n ≡ edge_module_count G F d e) where
    abbrev right : ℕ → ℕ
    right = boundary_number G F x d (boundary_of_tuple G t)

    right_at : (i : ℕ) → i < edge_module_count G F d e → boundary_number G F x d (boundary_of_tuple G t) (start + i)
        ≡ on_edge G F d e (boundary_of_tuple G t e) i
    right_at i inside =
        ap (λ s. boundary_number G F x d (boundary_of_tuple G t) (s + i)) is_start
        ∙ boundary_number_at G F x d (boundary_of_tuple G t) e i is_edge starts inside

    pub edge_agrees :
        AgreeBelow start left (boundary_number G F x d (boundary_of_tuple G t)) →
        ((i : ℕ) → i < edge_module_count G F d e → left (start + i) ≡ on_edge G F d e (boundary_of_tuple G t e) i) →
        AgreeBelow (start + n) left (boundary_number G F x d (boundary_of_tuple G t))
    edge_agrees before same k below = elim (cases_lt k start) [
      | inl earlier ↦ before k earlier
      | inr from ↦
          let at : start + (k - start) ≡ k = omega arith in
          let inside : k - start < edge_module_count G F d e = omega arith in
          sym (ap left at) ∙ same (k - start) inside ∙ sym (right_at (k - start) inside) ∙ ap right at
    ]

    pub edge_differs :
        (diff : Difference) → start + n ≤ boundary_count G F x d →
        AgreeBelow start left (boundary_number G F x d (boundary_of_tuple G t)) →
        IsFirstDifference (λ i. left (start + i)) (on_edge G F d e (boundary_of_tuple G t e))
        (edge_module_count G F d e) diff →
        IsFirstDifference left (boundary_number G F x d (boundary_of_tuple G t)) (boundary_count G F x d)
        (record { place = start + diff.place; left = diff.left; right = diff.right })
    edge_differs diff within before is = record {
      below = omega (arith, is.below);
      left_is = is.left_is;
      right_is = is.right_is ∙ sym (right_at diff.place is.below);
      differs = is.differs;
      earlier = λ k less. elim (cases_lt k start) [
        | inl earlier ↦ before k earlier
        | inr from ↦
            let at : start + (k - start) ≡ k = omega arith in
            let inside : k - start < edge_module_count G F d e = omega (arith, is.below) in
            sym (ap left at) ∙ is.earlier (k - start) (omega arith) ∙ sym (right_at (k - start) inside) ∙ ap right at
      ];
    }
