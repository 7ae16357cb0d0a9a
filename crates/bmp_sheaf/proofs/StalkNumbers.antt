-- Elements by their coordinates: each numbers are those of an element, and each element has numbers.
use Rattle.std.proofs.Common.{◌≡◌, ℕ, ◌-◌, ◌%◌, ◌<◌, ◌≤◌, List, length, sym, ap, ◌∙◌, arith}
use Rattle.std.specs.Prelude.{slice_index}
use Rattle.bmp_math.specs.Vectors.{SameVector}
use Rattle.bmp_math.specs.Blocks.{joined}
use Rattle.bmp_math.proofs.BlockLemmas.{joined_at}
use Rattle.bmp_poly.specs.Exponents.{IsMonomial, place, exponents}
use Rattle.bmp_poly.proofs.PlaceLemmas.{place_below, exponents-place}
use Rattle.bmp_sheaf.specs.Elements.{Element, HasComponent, SameElement}
use Rattle.bmp_sheaf.specs.Coordinates.{component_count, stalk_count, stalk_place, element_of}
use Rattle.bmp_sheaf.proofs.Components.{IsStalkPlace, stalk_place_of, inside_size}

module _ (r : ℕ) (degrees : List ℕ) (d : ℕ) where
  -- how many coordinates the polynomial at the generator g has
  abbrev pub stalk_size : ℕ → ℕ
  stalk_size g = component_count r d (slice_index degrees g)

  -- coordinate k of the element u
  abbrev pub stalk_number : Element → ℕ → ℕ
  stalk_number u = joined stalk_size (λ g i. u g (exponents 6 r (d - slice_index degrees g) i)) (length degrees)

  -- each coefficient stands at its place
  pub stalk_number_at : (u : Element) (g s : ℕ) (m : List ℕ) → r ≤ 6 → HasComponent degrees d g s → IsMonomial 6 r s m →
      stalk_number u (stalk_place r degrees d g m) ≡ u g m
  stalk_number_at u g s m wide has is =
      let whole : d - slice_index degrees g ≡ s = omega (arith, has.1) in
      joined_at stalk_size (λ h i. u h (exponents 6 r (d - slice_index degrees h) i)) (length degrees) g
      (place r m) has.0
      (inside_size r d degrees g s (place r m) has (place_below 6 r s m wide is))
      ∙ ap (λ k. u g (exponents 6 r k (place r m))) whole
      ∙ ap (u g) (exponents-place 6 r s m wide is)

  -- the element with the numbers of u is u, and the numbers of the element with the numbers v are v
  pub element_of_numbers : (p : ℕ) (u : Element) → r ≤ 6 →
      SameElement p r degrees d (element_of r degrees d (stalk_number u)) u
  element_of_numbers p u wide g s has m is = ap (λ z. z % p) (stalk_number_at u g s m wide has is)

  pub numbers_of_element : (v : ℕ → ℕ) (k : ℕ) → r ≤ 6 → k < stalk_count r degrees d →
      stalk_number (element_of r degrees d v) k ≡ v k
  numbers_of_element v k wide below =
      let at : IsStalkPlace r d degrees k = stalk_place_of r d degrees wide k below in
      ap (stalk_number (element_of r degrees d v)) (sym at.is)
      ∙ stalk_number_at (element_of r degrees d v) at.generator at.degree at.monomial wide at.has at.is_monomial
      ∙ ap v at.is

  -- the same element has the same numbers
  pub numbers_of_same : (p : ℕ) (u v : Element) → r ≤ 6 → SameElement p r degrees d u v →
      SameVector p (stalk_count r degrees d) (stalk_number u) (stalk_number v)
  numbers_of_same p u v wide same k below =
      let at : IsStalkPlace r d degrees k = stalk_place_of r d degrees wide k below in
      let number : (w : Element) → stalk_number w k ≡ w at.generator at.monomial =
      λ w. ap (stalk_number w) (sym at.is)
      ∙ stalk_number_at w at.generator at.degree at.monomial wide at.has at.is_monomial in
      ap (λ z. z % p) (number u) ∙ same at.generator at.degree at.has at.monomial at.is_monomial
      ∙ ap (λ z. z % p) (sym (number v))
