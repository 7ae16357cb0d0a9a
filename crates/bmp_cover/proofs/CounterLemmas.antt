-- A sheaf that breaks the first of the three conditions alone, and one that breaks the second alone.
use Rattle.std.proofs.Common.{◌≡◌, ℕ, zero, suc, ◌+◌, ◌%◌, ◌<◌, ◌≤◌, cond, eqb, List, [], ◌∷◌, refl, sym, ap, subst, ◌∙◌, ◌⊎◌, inl, inr, arith}
use Rattle.std.specs.Prelude.{slice_index}
use Rattle.std.proofs.lemmas.Bool.{cases_eq}
use Rattle.bmp_math.specs.Congruences.{SameMod}
use Rattle.bmp_math.proofs.CongruenceLemmas.{same_add}
use Rattle.bmp_math.proofs.SumLemmas.{sum_below-zero}
use Rattle.bmp_poly.specs.Exponents.{IsMonomial, zeros}
use Rattle.bmp_poly.specs.Forms.{Form, Congruent, times_label}
use Rattle.bmp_poly.proofs.LabelLemmas.{congruent_refl}
use Rattle.bmp_graph.specs.Graph.{Graph, IsAbove, edge, edge_count, lower, upper, label}
use Rattle.bmp_sheaf.specs.Elements.{Element, HasComponent, zero_element, extension}
use Rattle.bmp_sheaf.specs.Sheaves.{Tuple, lift_of, EqualOnEdge}
use Rattle.bmp_sheaf.proofs.ProductLemmas.{product-one, product-zero}
use Rattle.bmp_sheaf.proofs.ExtensionLemmas.{extension_one, extension_two}
use Rattle.bmp_sections.specs.Sections.{IsReached, IsLifted, IsMinimal}
use Rattle.bmp_cover.specs.Examples.{IsLine, IsTriangle, missing_sheaf, split_sheaf}
use Rattle.bmp_cover.proofs.ExampleLemmas.{one_monomial, divided_at_one, component_is, one_is_not_zero, always_reached, each_is_section}

-- in degree 0 a label divides a difference only where there is none
same_at_one : (p r : ℕ) (c : ℕ → ℕ) (a b : Form) → r ≤ 6 → Congruent p 6 r 0 c a b →
    SameMod p (a (zeros 6)) (b (zeros 6))
same_at_one p r c a b wide h =
    let t : Form = times_label r c h.quotient in
    let divided : Congruent p 6 r 0 c t (λ m. 0) = record { quotient = h.quotient; sums = λ m mono. refl_mod (t m) } in
    let none : SameMod p (t (zeros 6)) 0 = divided_at_one p r c t wide divided in
    let own : b (zeros 6) + 0 ≡ b (zeros 6) = omega arith in
    h.sums (zeros 6) (one_monomial r) ∙ same_add p (b (zeros 6)) (b (zeros 6)) (t (zeros 6)) 0 refl none
    ∙ ap (λ z. z % p) own
  where
    refl_mod : (x : ℕ) → SameMod p x (0 + x)
    refl_mod x = let same : x ≡ 0 + x = omega arith in ap (λ z. z % p) same

extension_none : (r d : ℕ) (images : ℕ → Element) (u : Element) (h : ℕ) (m : List ℕ) → extension r [] images d u h m ≡ 0
unfolding extension
extension_none r d images u h m = sum_below-zero _

-- ---- a generator is missing on the line

module _ (G : Graph) (is : IsLine G) where
  pub missing_reached : (d : ℕ) → IsReached G missing_sheaf 0 d
  missing_reached d = always_reached G is missing_sheaf d

  pub missing_minimal : (d : ℕ) → IsMinimal G missing_sheaf 0 d
  missing_minimal d = record { minimal = λ u zero_boundary g below is_new. absurd (omega (arith, below)) }

  one_above : Tuple
  one_above y g m = 1

  -- the section 1 has a boundary that isn't 0, and the one element has none
  pub missing_not_lifted : IsLifted G missing_sheaf 0 0 → ⊥
  unfolding one_above
  missing_not_lifted h =
      let found = h.lifted one_above (each_is_section G is missing_sheaf 0 one_above) in
      let below : 0 < edge_count G = omega (arith, is.one_edge) in
      let component : HasComponent (missing_sheaf.degrees (upper G 0)) 0 0 0 =
      subst (λ (l : List ℕ). HasComponent l 0 0 0) (sym (ap missing_sheaf.degrees is.upper_end)) (omega arith, refl) in
      let none : lift_of G missing_sheaf 0 0 found.0 0 (zeros 6) ≡ 0 =
      ap (λ x. extension G.rank (missing_sheaf.degrees x) (missing_sheaf.lift 0) 0 found.0 0 (zeros 6)) is.lower_end
      ∙ extension_none G.rank 0 (missing_sheaf.lift 0) found.0 0 (zeros 6) in
      let same : SameMod G.prime (lift_of G missing_sheaf 0 0 found.0 0 (zeros 6)) 1 =
      same_at_one G.prime G.rank (label G 0) (lift_of G missing_sheaf 0 0 found.0 0) (one_above (upper G 0) 0)
      (omega (arith, is.rank)) (found.1 0 below is.lower_end 0 0 component) in
      one_is_not_zero G.prime is.prime (sym same ∙ ap (λ z. z % G.prime) none)

-- ---- two generators on the triangle, one for each edge

abbrev both_zero : List ℕ
both_zero = 0 ∷ 0 ∷ []

module _ (G : Graph) (is : IsTriangle G) where
  edge_below : (e : ℕ) → e < 3 → e < edge_count G
  edge_below e below = omega (arith, is.three_edges)

  -- the lifts on the three edges
  first_lift : (d : ℕ) (u : Element) (h : ℕ) (m : List ℕ) → IsMonomial 6 G.rank d m →
      lift_of G split_sheaf 0 d u h m ≡ u 0 m
  first_lift d u h m mono =
      ap (λ x. extension G.rank (split_sheaf.degrees x) (split_sheaf.lift 0) d u h m) is.first_lower
      ∙ extension_two G.rank d (split_sheaf.lift 0) u h m
      ∙ omega (
        arith,
        product-one G.rank d (u 0) (split_sheaf.lift 0 0 h) m is.rank mono (λ n. refl),
        product-zero G.rank d (u 1) (split_sheaf.lift 0 1 h) m (λ n. refl),
      )

  second_lift : (d : ℕ) (u : Element) (h : ℕ) (m : List ℕ) → IsMonomial 6 G.rank d m →
      lift_of G split_sheaf 1 d u h m ≡ u 1 m
  second_lift d u h m mono =
      ap (λ x. extension G.rank (split_sheaf.degrees x) (split_sheaf.lift 1) d u h m) is.second_lower
      ∙ extension_two G.rank d (split_sheaf.lift 1) u h m
      ∙ omega (
        arith,
        product-zero G.rank d (u 0) (split_sheaf.lift 1 0 h) m (λ n. refl),
        product-one G.rank d (u 1) (split_sheaf.lift 1 1 h) m is.rank mono (λ n. refl),
      )

  third_lift : (d : ℕ) (u : Element) (h : ℕ) (m : List ℕ) → IsMonomial 6 G.rank d m →
      lift_of G split_sheaf 2 d u h m ≡ u 0 m
  third_lift d u h m mono =
      ap (λ x. extension G.rank (split_sheaf.degrees x) (split_sheaf.lift 2) d u h m) is.third_lower
      ∙ extension_one G.rank d (split_sheaf.lift 2) u h m
      ∙ product-one G.rank d (u 0) (split_sheaf.lift 2 0 h) m is.rank mono (λ n. refl)

  -- the one generator at an upper end
  abbrev HasOne : ℕ → Type 0
  HasOne e = split_sheaf.degrees (upper G e) ≡ 0 ∷ []

  component_at : (e d g t : ℕ) → HasOne e → HasComponent (split_sheaf.degrees (upper G e)) d g t → (g ≡ 0) × (t ≡ d)
  component_at e d g t one has = component_is d g t (subst (λ (l : List ℕ). HasComponent l d g t) one has)

  one_component : (e d : ℕ) → HasOne e → HasComponent (split_sheaf.degrees (upper G e)) d 0 d
  one_component e d one =
      let sum : 0 + d ≡ d = omega arith in
      subst (λ (l : List ℕ). HasComponent l d 0 d) (sym one) (omega arith, sum)

  first_one : HasOne 0
  first_one = ap split_sheaf.degrees is.first_upper

  second_one : HasOne 1
  second_one = ap split_sheaf.degrees is.second_upper

  third_one : HasOne 2
  third_one = ap split_sheaf.degrees is.third_upper

  -- only the edges 0 and 1 go up from vertex 0
  from_bottom : (e : ℕ) → e < edge_count G → lower G e ≡ 0 → (e ≡ 0) ⊎ (e ≡ 1)
  from_bottom e below from = elim (cases_eq e 0) [
    | inl first ↦ inl first
    | inr other ↦ elim (cases_eq e 1) [
      | inl second ↦ inr second
      | inr later ↦
          let third : e ≡ 2 = omega (arith, is.three_edges) in
          let one : lower G e ≡ 1 = ap (lower G) third ∙ is.third_lower in
          absurd (omega arith)
    ]
  ]

  -- the element with the boundary of a tuple
  values_of : Tuple → Element
  values_of s g m = cond (eqb g 0) (s 1 0 m) (s 2 0 m)

  equal_on : (e y d : ℕ) (u : Element) (s : Tuple) → upper G e ≡ y → HasOne e
      → ((m : List ℕ) → IsMonomial 6 G.rank d m → lift_of G split_sheaf e d u 0 m ≡ s y 0 m)
      → EqualOnEdge G split_sheaf e d (lift_of G split_sheaf e d u) (s (upper G e))
  equal_on e y d u s up one lift g t has =
      let parts = component_at e d g t one has in
      congruent_refl G.prime 6 G.rank t (label G e) (lift_of G split_sheaf e d u g) (s (upper G e) g)
      (λ m mono. ap (λ z. z % G.prime)
      (ap (λ k. lift_of G split_sheaf e d u k m) parts.0 ∙ lift m (subst (λ k. IsMonomial 6 G.rank k m) parts.1 mono)
      ∙ ap (λ k. s y k m) (sym parts.0) ∙ ap (λ x. s x g m) (sym up)))

  pub split_lifted : (d : ℕ) → IsLifted G split_sheaf 0 d
  unfolding values_of
  split_lifted d = record {
    lifted = λ s sect. (
      values_of s,
      λ e below from. elim (from_bottom e below from) [
        | inl first ↦
            subst (λ (k : ℕ). EqualOnEdge G split_sheaf k d (lift_of G split_sheaf k d (values_of s)) (s (upper G k)))
            (sym first)
            (equal_on 0 1 d (values_of s) s is.first_upper first_one (λ m mono. first_lift d (values_of s) 0 m mono))
        | inr second ↦
            subst (λ (k : ℕ). EqualOnEdge G split_sheaf k d (lift_of G split_sheaf k d (values_of s)) (s (upper G k)))
            (sym second)
            (equal_on 1 2 d (values_of s) s is.second_upper second_one (λ m mono. second_lift d (values_of s) 0 m mono))
      ],
    );
  }

  -- where the lift on an edge is 0, so is the coefficient
  none_at : (e : ℕ) (u : Element) → HasOne e → EqualOnEdge G split_sheaf e 0 (lift_of G split_sheaf e 0 u) zero_element
      → SameMod G.prime (lift_of G split_sheaf e 0 u 0 (zeros 6)) 0
  none_at e u one none =
      divided_at_one G.prime G.rank (label G e) (lift_of G split_sheaf e 0 u 0) is.rank
      (none 0 0 (one_component e 0 one))

  minimal_at_zero : IsMinimal G split_sheaf 0 0
  minimal_at_zero = record {
    minimal = λ u zero_boundary g below is_new. elim (cases_eq g 0) [
      | inl first ↦
          ap (λ k. u k (zeros 6) % G.prime) first
          ∙ sym (ap (λ z. z % G.prime) (first_lift 0 u 0 (zeros 6) (one_monomial G.rank)))
          ∙ none_at 0 u first_one (zero_boundary 0 (edge_below 0 (omega arith)) is.first_lower)
      | inr other ↦
          let second : g ≡ 1 = omega (arith, below, other) in
          ap (λ k. u k (zeros 6) % G.prime) second
          ∙ sym (ap (λ z. z % G.prime) (second_lift 0 u 0 (zeros 6) (one_monomial G.rank)))
          ∙ none_at 1 u second_one (zero_boundary 1 (edge_below 1 (omega arith)) is.second_lower)
    ];
  }

  -- in a positive degree no generator is new
  pub split_minimal : (d : ℕ) → IsMinimal G split_sheaf 0 d
  split_minimal zero = minimal_at_zero
  split_minimal (suc d) = record { minimal = λ u zero_boundary g below is_new. absurd (none g below is_new) }
    where
      none : (g : ℕ) → g < 2 → slice_index both_zero g ≡ suc d → ⊥
      none zero below same = omega (arith, same)
      none (suc zero) below same = omega (arith, same)
      none (suc (suc g)) below same = omega (arith, below)

  -- 1 at the first generator, 0 at the second
  first : Element
  first g m = cond (eqb g 0) 1 0

  same_on : (e : ℕ) (a b : Element) → HasOne e → EqualOnEdge G split_sheaf e 0 a b →
      SameMod G.prime (a 0 (zeros 6)) (b 0 (zeros 6))
  same_on e a b one equal =
      same_at_one G.prime G.rank (label G e) (a 0) (b 0) is.rank (equal 0 0 (one_component e 0 one))

  -- the two values above are equal on the third edge, and those of the boundary aren't
  pub split_not_reached : IsReached G split_sheaf 0 0 → ⊥
  unfolding first
  split_not_reached h =
      let found = h.reached first in
      let s : Tuple = found.0 in
      let mono : IsMonomial 6 G.rank 0 (zeros 6) = one_monomial G.rank in
      let middle : IsAbove G (lower G 2) 0 =
      subst (λ (x : ℕ). IsAbove G (lower G 2) x) is.first_lower
      (edge 0 (edge_below 0 (omega arith)) (is.first_upper ∙ sym is.third_lower)) in
      let highest : IsAbove G (upper G 2) 0 =
      subst (λ (x : ℕ). IsAbove G (upper G 2) x) is.second_lower
      (edge 1 (edge_below 1 (omega arith)) (is.second_upper ∙ sym is.third_upper)) in
      let on_first : SameMod G.prime (lift_of G split_sheaf 0 0 first 0 (zeros 6)) (s (upper G 0) 0 (zeros 6)) =
      same_on 0 (lift_of G split_sheaf 0 0 first) (s (upper G 0)) first_one
      (found.2 0 (edge_below 0 (omega arith)) is.first_lower) in
      let on_second : SameMod G.prime (lift_of G split_sheaf 1 0 first 0 (zeros 6)) (s (upper G 1) 0 (zeros 6)) =
      same_on 1 (lift_of G split_sheaf 1 0 first) (s (upper G 1)) second_one
      (found.2 1 (edge_below 1 (omega arith)) is.second_lower) in
      let on_third : SameMod G.prime (lift_of G split_sheaf 2 0 (s (lower G 2)) 0 (zeros 6))
      (s (upper G 2) 0 (zeros 6)) =
      same_on 2 (lift_of G split_sheaf 2 0 (s (lower G 2))) (s (upper G 2)) third_one
      (found.1 2 (edge_below 2 (omega arith)) middle highest) in
      let rest : ℕ → ℕ = λ z. z % G.prime in
      one_is_not_zero G.prime is.prime
      (sym (ap rest (first_lift 0 first 0 (zeros 6) mono)) ∙ on_first
      ∙ ap (λ y. rest (s y 0 (zeros 6))) (is.first_upper ∙ sym is.third_lower)
      ∙ sym (ap rest (third_lift 0 (s (lower G 2)) 0 (zeros 6) mono)) ∙ on_third
      ∙ ap (λ y. rest (s y 0 (zeros 6))) (is.third_upper ∙ sym is.second_upper)
      ∙ sym on_second ∙ ap rest (second_lift 0 first 0 (zeros 6) mono))
