-- Lifts along an edge are linear and take out monomials; and what is equal on an edge to a lift stays so.
use Rattle.std.proofs.Common.{◌≡◌, ℕ, ◌+◌, ◌*◌, ◌%◌, ◌<◌, ◌≤◌, List, length, ap}
use Rattle.std.specs.Prelude.{slice_index}
use Rattle.bmp_math.specs.Sums.{sum_below}
use Rattle.bmp_poly.specs.Exponents.{IsMonomial}
use Rattle.bmp_graph.specs.Graph.{Graph, lower, upper, label}
use Rattle.bmp_sheaf.specs.Elements.{Element, SameElement, zero_element, monomial_times}
use Rattle.bmp_sheaf.specs.Units.{unit_element}
use Rattle.bmp_sheaf.specs.Sheaves.{SheafData, lift_of, EqualOnEdge}
use Rattle.bmp_sheaf.proofs.ElementLaws.{same_congruent, congruent_chained, congruent_plus, congruent_times, congruent_combination, congruent_monomial}
use Rattle.bmp_sheaf.proofs.ExtensionLaws.{extension-plus, extension-times, extension-zero, extension-combination, extension-monomial, extension-unit, extension_same}

module _ (G : Graph) (F : SheafData) (e : ℕ) where
  -- the same element of the stalk at the lower end, and at the upper end
  abbrev pub SameAtLower : ℕ → Element → Element → Type 0
  SameAtLower d u v = SameElement G.prime G.rank (F.degrees (lower G e)) d u v

  abbrev pub SameAtUpper : ℕ → Element → Element → Type 0
  SameAtUpper d a b = SameElement G.prime G.rank (F.degrees (upper G e)) d a b

  pub lift_same : (d : ℕ) (u v : Element) → G.rank ≤ 6 → SameAtLower d u v →
      SameAtUpper d (lift_of G F e d u) (lift_of G F e d v)
  lift_same d u v wide same h s has m is =
      extension_same G.rank (F.degrees (lower G e)) (F.lift e) G.prime d u v wide same h m

  pub lift_zero : (d : ℕ) → SameAtUpper d (lift_of G F e d zero_element) zero_element
  lift_zero d h s has m is = ap (λ z. z % G.prime) (extension-zero G.rank (F.degrees (lower G e)) (F.lift e) d h m)

  pub lift_plus : (d : ℕ) (u v : Element) →
      SameAtUpper d (lift_of G F e d (λ g m. u g m + v g m)) (λ g m. lift_of G F e d u g m + lift_of G F e d v g m)
  lift_plus d u v h s has m is =
      ap (λ z. z % G.prime) (extension-plus G.rank (F.degrees (lower G e)) (F.lift e) d u v h m)

  pub lift_times : (d x : ℕ) (u : Element) →
      SameAtUpper d (lift_of G F e d (λ g m. x * u g m)) (λ g m. x * lift_of G F e d u g m)
  lift_times d x u h s has m is =
      ap (λ z. z % G.prime) (extension-times G.rank (F.degrees (lower G e)) (F.lift e) d x u h m)

  pub lift_combination : (d : ℕ) (c : ℕ → ℕ) (u : ℕ → Element) (n : ℕ) →
      SameAtUpper d (lift_of G F e d (λ g m. sum_below (λ j. c j * u j g m) n))
      (λ g m. sum_below (λ j. c j * lift_of G F e d (u j) g m) n)
  lift_combination d c u n h s has m is =
      ap (λ z. z % G.prime) (extension-combination G.rank (F.degrees (lower G e)) (F.lift e) d c u n h m)

  pub lift_monomial : (d k t : ℕ) (n : List ℕ) (u : Element) → G.rank ≤ 6 → IsMonomial 6 G.rank k n → d + k ≡ t →
      SameAtUpper t (lift_of G F e t (monomial_times n u)) (monomial_times n (lift_of G F e d u))
  lift_monomial d k t n u wide is_n total h s has m is =
      ap (λ z. z % G.prime)
      (extension-monomial G.rank (F.degrees (lower G e)) (F.lift e) d k t n u h m wide is_n total is.long)

  -- the lift of a generator is the given one
  pub lift_unit : (g : ℕ) → G.rank ≤ 6 → g < length (F.degrees (lower G e)) →
      SameAtUpper (slice_index (F.degrees (lower G e)) g)
      (lift_of G F e (slice_index (F.degrees (lower G e)) g) (unit_element g)) (F.lift e g)
  lift_unit g wide below h s has m is =
      ap (λ z. z % G.prime) (extension-unit G.rank (F.degrees (lower G e)) (F.lift e) g h s m wide below is)

  -- the lift of u and a are equal on the edge
  abbrev pub LiftsTo : ℕ → Element → Element → Type 0
  LiftsTo d u a = EqualOnEdge G F e d (lift_of G F e d u) a

  -- what is the same as a lift may stand for it
  led : (d : ℕ) (u v a : Element) → SameAtUpper d u v → EqualOnEdge G F e d v a → EqualOnEdge G F e d u a
  led d u v a same equal =
      congruent_chained G.prime G.rank (F.degrees (upper G e)) (label G e) d u v a
      (same_congruent G.prime G.rank (F.degrees (upper G e)) (label G e) d u v same) equal

  pub lifts_same : (d : ℕ) (u v a : Element) → G.rank ≤ 6 → SameAtLower d u v → LiftsTo d v a → LiftsTo d u a
  lifts_same d u v a wide same lifts = led d (lift_of G F e d u) (lift_of G F e d v) a (lift_same d u v wide same) lifts

  pub lifts_zero : (d : ℕ) → LiftsTo d zero_element zero_element
  lifts_zero d = same_congruent G.prime G.rank (F.degrees (upper G e)) (label G e) d (lift_of G F e d zero_element)
      zero_element (lift_zero d)

  pub lifts_plus : (d : ℕ) (u v a b : Element) → LiftsTo d u a → LiftsTo d v b →
      LiftsTo d (λ g m. u g m + v g m) (λ g m. a g m + b g m)
  lifts_plus d u v a b h f =
      led d (lift_of G F e d (λ g m. u g m + v g m)) (λ g m. lift_of G F e d u g m + lift_of G F e d v g m)
      (λ g m. a g m + b g m) (lift_plus d u v)
      (congruent_plus G.prime G.rank (F.degrees (upper G e)) (label G e) d (lift_of G F e d u) (lift_of G F e d v) a b h
      f)

  pub lifts_times : (d x : ℕ) (u a : Element) → LiftsTo d u a → LiftsTo d (λ g m. x * u g m) (λ g m. x * a g m)
  lifts_times d x u a h =
      led d (lift_of G F e d (λ g m. x * u g m)) (λ g m. x * lift_of G F e d u g m) (λ g m. x * a g m)
      (lift_times d x u)
      (congruent_times G.prime G.rank (F.degrees (upper G e)) (label G e) d x (lift_of G F e d u) a h)

  pub lifts_combination : (d : ℕ) (c : ℕ → ℕ) (u a : ℕ → Element) (n : ℕ) → ((j : ℕ) → j < n → LiftsTo d (u j) (a j)) →
      LiftsTo d (λ g m. sum_below (λ j. c j * u j g m) n) (λ g m. sum_below (λ j. c j * a j g m) n)
  lifts_combination d c u a n h =
      led d (lift_of G F e d (λ g m. sum_below (λ j. c j * u j g m) n))
      (λ g m. sum_below (λ j. c j * lift_of G F e d (u j) g m) n) (λ g m. sum_below (λ j. c j * a j g m) n)
      (lift_combination d c u n)
      (congruent_combination G.prime G.rank (F.degrees (upper G e)) (label G e) d c (λ j. lift_of G F e d (u j)) a n h)

  pub lifts_monomial : (d k t : ℕ) (n : List ℕ) (u a : Element) → G.rank ≤ 6 → IsMonomial 6 G.rank k n → d + k ≡ t →
      LiftsTo d u a → LiftsTo t (monomial_times n u) (monomial_times n a)
  lifts_monomial d k t n u a wide is_n total h =
      led t (lift_of G F e t (monomial_times n u)) (monomial_times n (lift_of G F e d u)) (monomial_times n a)
      (lift_monomial d k t n u wide is_n total)
      (congruent_monomial G.prime G.rank (F.degrees (upper G e)) (label G e) d k t n (lift_of G F e d u) a is_n total h)
