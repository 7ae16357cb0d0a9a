-- The point and the line.
use Rattle.std.proofs.Common.{◌≡◌, ◌≢◌, ℕ, ◌+◌, ◌%◌, ◌<◌, ◌≤◌, cond, eqb, List, [], ◌∷◌, length, refl, sym, ap, subst, ◌∙◌, arith}
use Rattle.std.specs.Prelude.{slice_index}
use Rattle.std.proofs.Math.Nat.{mod-eq_of_lt}
use Rattle.bmp_math.specs.Congruences.{SameMod}
use Rattle.bmp_poly.specs.Exponents.{IsMonomial, zeros}
use Rattle.bmp_poly.specs.Forms.{Form, Congruent}
use Rattle.bmp_poly.proofs.PlaceLemmas.{length-zeros, sum-zeros, zeros_at}
use Rattle.bmp_poly.proofs.LabelLemmas.{congruent_refl}
use Rattle.bmp_poly.proofs.LawLemmas.{constant_divided}
use Rattle.bmp_graph.specs.Graph.{Graph, IsAbove, edge, further, vertex_count, edge_count, lower, upper, label, length_at}
use Rattle.bmp_sheaf.specs.Elements.{Element, HasComponent, zero_element, extension}
use Rattle.bmp_sheaf.specs.Sheaves.{SheafData, Tuple, lift_of, boundary_of_element, SameBoundary}
use Rattle.bmp_sheaf.proofs.ProductLemmas.{product-one, product-zero}
use Rattle.bmp_sheaf.proofs.ExtensionLemmas.{extension_one, extension_two}
use Rattle.bmp_sections.specs.Sections.{IsSection, above, IsReached, IsLifted, IsMinimal}
use Rattle.bmp_cover.specs.BradenMacPherson.{IsBradenMacPherson}
use Rattle.bmp_cover.specs.Examples.{IsPoint, IsLine, unit_sheaf, surplus_sheaf}

pub point : (G : Graph) (most : ℕ) → IsPoint G → IsBradenMacPherson G unit_sheaf most 0
point G most is = record {
  is_top = record { vertex = omega (arith, is.one_vertex); longest = λ x below other. absurd (other (only x below)) };
  top_stalk = refl;
  reached = λ x d below other small. absurd (other (only x below));
  lifted = λ x d below other small. absurd (other (only x below));
  minimal = λ x d below other small. absurd (other (only x below));
}
  where
    only : (x : ℕ) → x < vertex_count G → x ≡ 0
    only x below = omega (arith, is.one_vertex)

-- the monomial 1
pub one_monomial : (r : ℕ) → IsMonomial 6 r 0 (zeros 6)
one_monomial r = record { long = length-zeros 6; size = sum-zeros 6; past = λ k l. zeros_at 6 k }

-- in degree 0 a label divides zero alone
pub divided_at_one : (p r : ℕ) (c : ℕ → ℕ) (a : Form) → r ≤ 6 → Congruent p 6 r 0 c a (λ m. 0) →
    SameMod p (a (zeros 6)) 0
divided_at_one p r c a wide h = (constant_divided p 6 r c a wide).0 h (zeros 6) (one_monomial r)

-- the one generator's polynomial has the whole degree
pub component_is : (d g s : ℕ) → HasComponent (0 ∷ []) d g s → (g ≡ 0) × (s ≡ d)
component_is d g s has =
    let first : g ≡ 0 = omega (arith, has.0) in
    let sum : slice_index (0 ∷ []) 0 + s ≡ d = ap (λ k. slice_index (0 ∷ []) k + s) (sym first) ∙ has.1 in
    let whole : 0 + s ≡ d = sum in
    (first, omega arith)

pub one_is_not_zero : (p : ℕ) → 2 ≤ p → SameMod p 1 0 → ⊥
one_is_not_zero p least same =
    let first : 1 % p ≡ 1 = mod-eq_of_lt (let lt : 1 < p = omega arith in lt) in
    let none : 0 % p ≡ 0 = mod-eq_of_lt (let lt : 0 < p = omega arith in lt) in
    apart (1 % p) (0 % p) first none same
  where
    apart : (a b : ℕ) → a ≡ 1 → b ≡ 0 → a ≡ b → ⊥
    apart a b is_one is_zero same = omega arith

module _ (G : Graph) (is : IsLine G) where
  pub only_edge : (e : ℕ) → e < edge_count G → e ≡ 0
  only_edge e below = omega (arith, is.one_edge)

  pub upper_is : (e : ℕ) → e < edge_count G → upper G e ≡ 1
  upper_is e below = ap (upper G) (only_edge e below) ∙ is.upper_end

  lower_is : (e : ℕ) → e < edge_count G → lower G e ≡ 0
  lower_is e below = ap (lower G) (only_edge e below) ∙ is.lower_end

  -- what is above something is vertex 1
  above_is : (y x : ℕ) → IsAbove G y x → y ≡ 1
  above_is y x (edge e below up) = sym up ∙ upper_is e below
  above_is y x (further e below rest) = above_is y (upper G e) rest

  -- so no edge has both ends above vertex 0, and each tuple is a section
  pub each_is_section : (F : SheafData) (d : ℕ) (s : Tuple) → IsSection G F (above G 0) d s
  each_is_section F d s e below low high =
      absurd (let one : lower G e ≡ 1 = above_is (lower G e) 0 low in omega (arith, lower_is e below))

  small : G.rank ≤ 6
  small = omega (arith, is.rank)

  vertices_two : vertex_count G ≡ 2
  vertices_two = ap length is.vertices

  -- a vertex other than 1 is 0
  pub other_is : (x : ℕ) → x < vertex_count G → x ≢ 1 → x ≡ 0
  other_is x below other = omega (arith, vertices_two)

  -- each element is reached, by the tuple of its lifts
  pub always_reached : (F : SheafData) (d : ℕ) → IsReached G F 0 d
  always_reached F d = record {
    reached = λ u. (
      (λ y. lift_of G F 0 d u),
      each_is_section F d (λ y. lift_of G F 0 d u),
      λ e below from g s has. congruent_refl G.prime 6 G.rank s (label G e) (lift_of G F e d u g) (lift_of G F 0 d u g)
          (λ m mono. ap (λ k. lift_of G F k d u g m % G.prime) (only_edge e below)),
    );
  }

  unit_lift : (e d : ℕ) (u : Element) (h : ℕ) (m : List ℕ) → IsMonomial 6 G.rank d m →
      lift_of G unit_sheaf e d u h m ≡ u 0 m
  unit_lift e d u h m mono = extension_one G.rank d (λ g h m. 1) u h m
      ∙ product-one G.rank d (u 0) (λ m. 1) m small mono (λ n. refl)

  unit_lifted : (d : ℕ) → IsLifted G unit_sheaf 0 d
  unit_lifted d = record {
    lifted = λ s sect. (
      s 1,
      λ e below from g t has.
          let parts = component_is d g t has in
          congruent_refl G.prime 6 G.rank t (label G e) (lift_of G unit_sheaf e d (s 1) g) (s (upper G e) g)
          (λ m mono. ap (λ z. z % G.prime)
          (unit_lift e d (s 1) g m (subst (λ k. IsMonomial 6 G.rank k m) parts.1 mono) ∙ ap (λ k. s 1 k m) (sym parts.0)
          ∙ ap (λ y. s y g m) (sym (upper_is e below)))),
    );
  }

  unit_minimal : (d : ℕ) → IsMinimal G unit_sheaf 0 d
  unit_minimal d = record {
    minimal = λ u zero_boundary g below is_new.
        let first : g ≡ 0 = omega arith in
        let new : d ≡ 0 = sym is_new ∙ ap (slice_index (0 ∷ [])) first in
        let zero_edge : 0 < edge_count G = omega (arith, is.one_edge) in
        let component : HasComponent (0 ∷ []) d 0 0 = (omega arith, sym new) in
        let zero_lift : SameMod G.prime (lift_of G unit_sheaf 0 d u 0 (zeros 6)) 0 =
        divided_at_one G.prime G.rank (label G 0) (lift_of G unit_sheaf 0 d u 0) small
        (zero_boundary 0 zero_edge is.lower_end 0 0 component) in
        let mono : IsMonomial 6 G.rank d (zeros 6) =
        subst (λ k. IsMonomial 6 G.rank k (zeros 6)) (sym new) (one_monomial G.rank) in
        ap (λ k. u k (zeros 6) % G.prime) first ∙ sym (ap (λ z. z % G.prime) (unit_lift 0 d u 0 (zeros 6) mono))
        ∙ zero_lift;
  }

  pub line : (most : ℕ) → IsBradenMacPherson G unit_sheaf most 1
  line most = record {
    is_top = record {
      vertex = omega (arith, vertices_two);
      longest = λ x below other.
          let first : length_at G x ≡ 0 = ap (length_at G) (other_is x below other)
          ∙ ap (λ (l : List ℕ). slice_index l 0) is.vertices in
          let second : length_at G 1 ≡ 1 = ap (λ (l : List ℕ). slice_index l 1) is.vertices in
          omega arith;
    };
    top_stalk = refl;
    reached = λ x d below other up. subst (λ z. IsReached G unit_sheaf z d) (sym (other_is x below other))
        (always_reached unit_sheaf d);
    lifted = λ x d below other up. subst (λ z. IsLifted G unit_sheaf z d) (sym (other_is x below other))
        (unit_lifted d);
    minimal = λ x d below other up. subst (λ z. IsMinimal G unit_sheaf z d) (sym (other_is x below other))
        (unit_minimal d);
  }

  -- the sheaf with a second generator at vertex 0
  surplus_lift : (d : ℕ) (u : Element) (h : ℕ) (m : List ℕ) → IsMonomial 6 G.rank d m →
      lift_of G surplus_sheaf 0 d u h m ≡ u 0 m
  surplus_lift d u h m mono =
      ap (λ x. extension G.rank (surplus_sheaf.degrees x) (surplus_sheaf.lift 0) d u h m) is.lower_end
      ∙ extension_two G.rank d (surplus_sheaf.lift 0) u h m
      ∙ omega (
        arith,
        product-one G.rank d (u 0) (surplus_sheaf.lift 0 0 h) m small mono (λ n. refl),
        product-zero G.rank d (u 1) (surplus_sheaf.lift 0 1 h) m (λ n. refl),
      )

  pub surplus_reached : (d : ℕ) → IsReached G surplus_sheaf 0 d
  surplus_reached d = always_reached surplus_sheaf d

  pub surplus_lifted : (d : ℕ) → IsLifted G surplus_sheaf 0 d
  surplus_lifted d = record {
    lifted = λ s sect. (
      s 1,
      λ e below from g t has.
          let parts = component_is d g t
          (subst (λ (l : List ℕ). HasComponent l d g t) (ap surplus_sheaf.degrees (upper_is e below)) has) in
          congruent_refl G.prime 6 G.rank t (label G e) (lift_of G surplus_sheaf e d (s 1) g) (s (upper G e) g)
          (λ m mono. ap (λ z. z % G.prime)
          (ap (λ k. lift_of G surplus_sheaf k d (s 1) g m) (only_edge e below)
          ∙ surplus_lift d (s 1) g m (subst (λ k. IsMonomial 6 G.rank k m) parts.1 mono)
          ∙ ap (λ k. s 1 k m) (sym parts.0) ∙ ap (λ y. s y g m) (sym (upper_is e below)))),
    );
  }

  -- 0 at the first generator and 1 at the second
  second : Element
  second g m = cond (eqb g 1) 1 0

  second_boundary : SameBoundary G surplus_sheaf 0 0 (boundary_of_element G surplus_sheaf 0 second) (λ e. zero_element)
  unfolding second
  second_boundary e below from g t has =
      let parts = component_is 0 g t
      (subst (λ (l : List ℕ). HasComponent l 0 g t) (ap surplus_sheaf.degrees (upper_is e below)) has) in
      congruent_refl G.prime 6 G.rank t (label G e) (lift_of G surplus_sheaf e 0 second g) (zero_element g)
      (λ m mono. ap (λ z. z % G.prime)
      (ap (λ k. lift_of G surplus_sheaf k 0 second g m) (only_edge e below)
      ∙ surplus_lift 0 second g m (subst (λ k. IsMonomial 6 G.rank k m) parts.1 mono)))

  pub surplus_not_minimal : IsMinimal G surplus_sheaf 0 0 → ⊥
  unfolding second
  surplus_not_minimal h =
      let one_is_zero : SameMod G.prime 1 0 = h.minimal second second_boundary 1 (omega arith) refl in
      one_is_not_zero G.prime is.prime one_is_zero
