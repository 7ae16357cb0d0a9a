-- The coordinates of an element by generators: each place is of one generator, and there of one monomial.
use Rattle.std.proofs.Common.{◌≡◌, ℕ, ◌+◌, ◌-◌, ◌<◌, ◌≤◌, leb, List, length, sym, ap, subst, ◌∙◌, inl, inr, arith}
use Rattle.std.specs.Prelude.{slice_index}
use Rattle.std.proofs.lemmas.Bool.{cases_lt, cond-true, cond-false, lt-leb, le-leb}
use Rattle.bmp_math.proofs.BlockLemmas.{InBlock, block_of, block_once}
use Rattle.bmp_poly.specs.Exponents.{IsMonomial, count, place, exponents}
use Rattle.bmp_poly.proofs.PlaceLemmas.{exponents_stand, exponents-place, place_below, StandsAt}
use Rattle.bmp_sheaf.specs.Elements.{HasComponent}
use Rattle.bmp_sheaf.specs.Coordinates.{component_count, stalk_start, stalk_count, stalk_place}
use Rattle.bmp_sheaf.proofs.StalkPlaces.{component_is_count}

-- what has a place among a generator's coefficients has a component there
pub component_within : (r d e i : ℕ) → i < component_count r d e → (e + (d - e) ≡ d) × (i < count r (d - e))
component_within r d e i inside = elim (cases_lt d e) [
  | inl above ↦
      let none : component_count r d e ≡ 0 = cond-false {A = ℕ} (leb e d) (count r (d - e)) 0 (lt-leb e d above) in
      absurd (omega (arith, inside, none))
  | inr within ↦
      let some : component_count r d e ≡ count r (d - e) =
      cond-true {A = ℕ} (leb e d) (count r (d - e)) 0 (le-leb e d within) in
      (omega arith, omega (arith, inside, some))
]

-- k is where the coefficient `place` at a generator stands
pub record InComponent (r d : ℕ) (degrees : List ℕ) (k : ℕ) : Type 0 where
  pub generator : ℕ
  pub degree : ℕ
  pub place : ℕ
  pub has : HasComponent degrees d generator degree
  pub inside : place < count r degree
  pub is : stalk_start r degrees d generator + place ≡ k

module _ (r d : ℕ) (degrees : List ℕ) where
  abbrev size : ℕ → ℕ
  size g = component_count r d (slice_index degrees g)

  pub inside_size : (g s i : ℕ) → HasComponent degrees d g s → i < count r s → i < size g
  inside_size g s i has inside = omega (arith, inside, component_is_count r s d (slice_index degrees g) has.1)

  pub component_of : (k : ℕ) → k < stalk_count r degrees d → InComponent r d degrees k
  component_of k below =
      let in_block : InBlock size (length degrees) k = block_of size (length degrees) k below in
      let within = component_within r d (slice_index degrees in_block.block) in_block.place in_block.inside in
      record {
        generator = in_block.block;
        degree = d - slice_index degrees in_block.block;
        place = in_block.place;
        has = (in_block.below, within.0);
        inside = within.1;
        is = sym in_block.is;
      }

  -- a fact of each place of each component is one of each place
  pub each_component : (P : ℕ → Type 0) →
      ((g s i : ℕ) → HasComponent degrees d g s → i < count r s → P (stalk_start r degrees d g + i)) →
      (k : ℕ) → k < stalk_count r degrees d → P k
  each_component P each k below = let at : InComponent r d degrees k = component_of k below in
      subst P at.is (each at.generator at.degree at.place at.has at.inside)

  pub component_once : (g h s t i j : ℕ) → HasComponent degrees d g s → HasComponent degrees d h t → i < count r s →
      j < count r t → stalk_start r degrees d g + i ≡ stalk_start r degrees d h + j → (g ≡ h) × (i ≡ j)
  component_once g h s t i j has_g has_h below_i below_j same =
      block_once size g h i j (inside_size g s i has_g below_i) (inside_size h t j has_h below_j) same

  -- the degrees of two polynomials at one generator are the same
  pub same_degree : (g h s t : ℕ) → HasComponent degrees d g s → HasComponent degrees d h t → g ≡ h → s ≡ t
  same_degree g h s t has_g has_h same = let at : slice_index degrees g ≡ slice_index degrees h =
      ap (slice_index degrees) same in omega (arith, has_g.1, has_h.1, at)

-- k is the place of a generator and a monomial
pub record IsStalkPlace (r d : ℕ) (degrees : List ℕ) (k : ℕ) : Type 0 where
  pub generator : ℕ
  pub degree : ℕ
  pub monomial : List ℕ
  pub has : HasComponent degrees d generator degree
  pub is_monomial : IsMonomial 6 r degree monomial
  pub is : stalk_place r degrees d generator monomial ≡ k

module _ (r d : ℕ) (degrees : List ℕ) (wide : r ≤ 6) where
  pub stalk_place_of : (k : ℕ) → k < stalk_count r degrees d → IsStalkPlace r d degrees k
  stalk_place_of k below =
      let at : InComponent r d degrees k = component_of r d degrees k below in
      let stands : StandsAt 6 r at.degree at.place (exponents 6 r at.degree at.place) =
      exponents_stand 6 r at.degree at.place wide at.inside in
      record {
        generator = at.generator;
        degree = at.degree;
        monomial = exponents 6 r at.degree at.place;
        has = at.has;
        is_monomial = stands.monomial;
        is = ap (λ z. stalk_start r degrees d at.generator + z) stands.place_is ∙ at.is;
      }

  pub stalk_place_once : (g h s t : ℕ) (m n : List ℕ) → HasComponent degrees d g s → HasComponent degrees d h t →
      IsMonomial 6 r s m → IsMonomial 6 r t n → stalk_place r degrees d g m ≡ stalk_place r degrees d h n →
      (g ≡ h) × (m ≡ n)
  stalk_place_once g h s t m n has_g has_h is_m is_n same =
      let both = component_once r d degrees g h s t (place r m) (place r n) has_g has_h (place_below 6 r s m wide is_m)
      (place_below 6 r t n wide is_n) same in
      let sizes : s ≡ t = same_degree r d degrees g h s t has_g has_h both.0 in (
        both.0,
        sym (exponents-place 6 r s m wide is_m) ∙ ap (exponents 6 r s) both.1
            ∙ ap (λ z. exponents 6 r z (place r n)) sizes ∙ exponents-place 6 r t n wide is_n,
      )
