-- An element is the sum, over the generators and the monomials of their polynomials, of its coefficient times the
-- monomial times the generator: the extension of the unit elements is the identity.
use Rattle.std.proofs.Common.{◌≡◌, ℕ, zero, suc, ◌+◌, ◌-◌, ◌*◌, ◌%◌, ◌<◌, ◌≤◌, cond, eqb, leb, leb-true, List, length, refl, sym, ap, ◌∙◌, inl, inr, arith, eq-eqb, ne_eqb}
use Rattle.std.specs.Prelude.{slice_index}
use Rattle.std.proofs.lemmas.Bool.{cases_Bool, cond-true, cond-false, le-leb}
use Rattle.bmp_math.specs.Sums.{sum_below}
use Rattle.bmp_math.proofs.SumLemmas.{sum_below_only}
use Rattle.bmp_poly.specs.Exponents.{IsMonomial, count, exponents}
use Rattle.bmp_poly.specs.Products.{product}
use Rattle.bmp_poly.proofs.PlaceLemmas.{exponents_stand, StandsAt}
use Rattle.bmp_sheaf.specs.Elements.{Element, HasComponent, SameElement, zero_element, monomial_times, extension}
use Rattle.bmp_sheaf.specs.Units.{unit_element}
use Rattle.bmp_sheaf.proofs.ProductLemmas.{product-one, product-zero}
use Rattle.bmp_sheaf.proofs.ElementLaws.{equal_same}

module _ (p r : ℕ) (degrees : List ℕ) (d : ℕ) (wide : r ≤ 6) where
  -- what the generator g gives
  abbrev part : Element → ℕ → List ℕ → ℕ → ℕ
  part u h m g = cond (leb (slice_index degrees g) d)
      (product 6 r (d - slice_index degrees g) (u g) (unit_element g h) m) 0

  pub units_extended : (u : Element) → SameElement p r degrees d (extension r degrees unit_element d u) u
  unfolding extension
  units_extended u g s has m is =
      let least : slice_index degrees g ≤ d = omega (arith, has.1) in
      let whole : d - slice_index degrees g ≡ s = omega (arith, has.1) in
      ap (λ z. z % p) (sum_below_only (part u g m) (length degrees) g has.0
      (λ i below other. elim (cases_Bool (leb (slice_index degrees i) d)) [
        | inl held ↦
            cond-true {A = ℕ} (leb (slice_index degrees i) d)
            (product 6 r (d - slice_index degrees i) (u i) (unit_element i g) m) 0 held
            ∙ product-zero r (d - slice_index degrees i) (u i) (unit_element i g) m
            (λ n. cond-false {A = ℕ} (eqb g i) 1 0 (ne_eqb g i (λ e. other (sym e))))
        | inr past ↦ cond-false {A = ℕ} (leb (slice_index degrees i) d)
            (product 6 r (d - slice_index degrees i) (u i) (unit_element i g) m) 0 past
      ])
      ∙ cond-true {A = ℕ} (leb (slice_index degrees g) d)
      (product 6 r (d - slice_index degrees g) (u g) (unit_element g g) m) 0
      (le-leb (slice_index degrees g) d least)
      ∙ ap (λ k. product 6 r k (u g) (unit_element g g) m) whole
      ∙ product-one r s (u g) (unit_element g g) m wide is (λ n. cond-true {A = ℕ} (eqb g g) 1 0 (eq-eqb g g refl)))

  -- so what holds of zero and of sums, and is read at components alone, holds of u where it holds of u's terms
  module _ (P : Element → Type 0) (respects : (u v : Element) → SameElement p r degrees d u v → P u → P v)
      (zero_holds : P zero_element) (sums : (u v : Element) → P u → P v → P (λ g m. u g m + v g m)) where
    holds_of_sum : (f : ℕ → Element) (n : ℕ) → ((i : ℕ) → i < n → P (f i)) → P (λ h m. sum_below (λ i. f i h m) n)
    unfolding sum_below
    holds_of_sum f zero each = zero_holds
    holds_of_sum f (suc n) each =
        sums (λ h m. sum_below (λ i. f i h m) n) (f n) (holds_of_sum f n (λ i below. each i (omega arith)))
        (each n (omega arith))

    module _ (u : Element) (terms : (g k : ℕ) (n : List ℕ) → HasComponent degrees d g k → IsMonomial 6 r k n →
        P (λ h m. u g n * monomial_times n (unit_element g) h m)) where
      holds_of_component : (g k : ℕ) → HasComponent degrees d g k → P (λ h m. product 6 r k (u g) (unit_element g h) m)
      unfolding product
      holds_of_component g k has =
          holds_of_sum (λ i h m. u g (exponents 6 r k i) * monomial_times (exponents 6 r k i) (unit_element g) h m)
          (count r k)
          (λ i below. let stands : StandsAt 6 r k i (exponents 6 r k i) = exponents_stand 6 r k i wide below in
          terms g k (exponents 6 r k i) has stands.monomial)

      holds_of_part : (g : ℕ) → g < length degrees → P (λ h m. part u h m g)
      holds_of_part g below = elim (cases_Bool (leb (slice_index degrees g) d)) [
        | inl held ↦
            let within : slice_index degrees g ≤ d = leb-true (slice_index degrees g) d held in
            respects (λ h m. product 6 r (d - slice_index degrees g) (u g) (unit_element g h) m) (λ h m. part u h m g)
            (equal_same p r degrees d (λ h m. product 6 r (d - slice_index degrees g) (u g) (unit_element g h) m)
            (λ h m. part u h m g)
            (λ h m. sym (cond-true {A = ℕ} (leb (slice_index degrees g) d)
            (product 6 r (d - slice_index degrees g) (u g) (unit_element g h) m) 0 held)))
            (holds_of_component g (d - slice_index degrees g) (below, omega arith))
        | inr past ↦
            respects zero_element (λ h m. part u h m g)
            (equal_same p r degrees d zero_element (λ h m. part u h m g)
            (λ h m. sym (cond-false {A = ℕ} (leb (slice_index degrees g) d)
            (product 6 r (d - slice_index degrees g) (u g) (unit_element g h) m) 0 past)))
            zero_holds
      ]

      pub holds_of_element : P u
      unfolding extension
      holds_of_element =
          respects (extension r degrees unit_element d u) u (units_extended u)
          (holds_of_sum (λ g h m. part u h m g) (length degrees) holds_of_part)
