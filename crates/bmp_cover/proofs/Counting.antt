-- At a vertex that meets the conditions the number of generators is a dimension.
use Rattle.std.proofs.Common.{◌≡◌, ℕ, ◌+◌, ◌-◌, ◌*◌, ◌%◌, ◌<◌, ◌≤◌, cond, eqb, List, [], ◌∷◌, ◌++◌, length, refl, sym, ap, subst, ◌∙◌, inl, inr, arith, eq-eqb}
use Rattle.std.specs.Prelude.{slice_index}
use Rattle.std.proofs.lemmas.Bool.{cases_eq, cond-true}
use Rattle.bmp_math.specs.Sums.{sum_below}
use Rattle.bmp_math.specs.Congruences.{SameMod}
use Rattle.bmp_poly.specs.Exponents.{IsMonomial, zeros}
use Rattle.bmp_graph.specs.Graph.{Graph, lower, upper}
use Rattle.bmp_sheaf.specs.Elements.{Element, HasComponent, SameElement, zero_element, monomial_times}
use Rattle.bmp_sheaf.specs.Units.{unit_element}
use Rattle.bmp_sheaf.specs.Sheaves.{SheafData, Boundary, lift_of, boundary_of_element, boundary_of_tuple}
use Rattle.bmp_sheaf.proofs.ShiftLaws.{shift-times, shift_below}
use Rattle.bmp_sheaf.proofs.ElementLaws.{equal_same, same_turned}
use Rattle.bmp_sheaf.proofs.UnitLaws.{holds_of_element}
use Rattle.bmp_sheaf.proofs.PartLaws.{constants, remainder, two_parts, extension-constants}
use Rattle.bmp_sheaf.proofs.LiftLaws.{SameAtUpper}
use Rattle.bmp_sections.specs.Sections.{IsReached, IsLifted, IsMinimal, above}
use Rattle.bmp_sections.proofs.SectionLaws.{section_times}
use Rattle.bmp_sections.proofs.BoundaryLaws.{HasBoundary, boundary_same, boundary_turned, boundary_chained, has_boundary_same, has_boundary_zero, has_boundary_plus, has_boundary_times, has_boundary_monomial, has_boundary_less}
use Rattle.bmp_cover.proofs.ExampleLemmas.{one_monomial}
use Rattle.bmp_cover.specs.Counts.{LowTerm, low_sum, generator_boundary, CountIsDimension}

module _ (G : Graph) (F : SheafData) (x d : ℕ) (wide : G.rank ≤ 6) where
  low_sum-append : (a b : List (LowTerm G F x d)) (y g : ℕ) (m : List ℕ) →
      low_sum G F x d (a ++ b) y g m ≡ low_sum G F x d a y g m + low_sum G F x d b y g m
  unfolding low_sum
  low_sum-append [] b y g m = omega arith
  low_sum-append (t ∷ a) b y g m = omega (arith, low_sum-append a b y g m)

  -- the element has the boundary of a low sum
  record Low (u : Element) : Type 0 where
    terms : List (LowTerm G F x d)
    boundary : HasBoundary G F x d u (boundary_of_tuple G (low_sum G F x d terms))

  -- a boundary with the same elements
  read_as : (u : Element) (b c : Boundary) → ((e g : ℕ) (m : List ℕ) → b e g m ≡ c e g m) → HasBoundary G F x d u b →
      HasBoundary G F x d u c
  read_as u b c equal h =
      boundary_chained G F x d (boundary_of_element G F d u) b c h
      (boundary_same G F x d b c
      (λ e below from. equal_same G.prime G.rank (F.degrees (upper G e)) d (b e) (c e) (equal e)))

  low_same : (u v : Element) → SameElement G.prime G.rank (F.degrees x) d u v → Low u → Low v
  low_same u v same low = record {
    terms = low.terms;
    boundary = has_boundary_same G F x d v u (boundary_of_tuple G (low_sum G F x d low.terms)) wide
        (same_turned G.prime G.rank (F.degrees x) d u v same) low.boundary;
  }

  low_zero : Low zero_element
  unfolding low_sum
  low_zero = record { terms = []; boundary = has_boundary_zero G F x d }

  low_plus : (u v : Element) → Low u → Low v → Low (λ g m. u g m + v g m)
  low_plus u v a b = record {
    terms = a.terms ++ b.terms;
    boundary =
        read_as (λ g m. u g m + v g m)
        (λ e g m. low_sum G F x d a.terms (upper G e) g m + low_sum G F x d b.terms (upper G e) g m)
        (boundary_of_tuple G (low_sum G F x d (a.terms ++ b.terms)))
        (λ e g m. sym (low_sum-append a.terms b.terms (upper G e) g m))
        (has_boundary_plus G F x d u v (boundary_of_tuple G (low_sum G F x d a.terms))
        (boundary_of_tuple G (low_sum G F x d b.terms)) a.boundary b.boundary);
  }

  -- a multiple of a generator of a lower degree, which has the boundary of a section there
  low_multiple : ((e : ℕ) → e < d → IsReached G F x e) → (c g k : ℕ) (n : List ℕ) → HasComponent (F.degrees x) d g k →
      IsMonomial 6 G.rank k n → 0 < k → Low (λ h m. c * monomial_times n (unit_element g) h m)
  unfolding low_sum
  low_multiple reached c g k n has is positive =
      let start = slice_index (F.degrees x) g in
      let lower_degree : slice_index (F.degrees x) g < d = omega (arith, has.1) in
      let found = (reached start lower_degree).reached (unit_element g) in
      let term : LowTerm G F x d = record {
        degree = start;
        size = k;
        positive = positive;
        sizes = has.1;
        monomial = n;
        is_monomial = is;
        values = λ y h m. c * found.0 y h m;
        is_section = section_times G F (above G x) start c found.0 found.1;
      } in
      record {
        terms = term ∷ [];
        boundary =
            read_as (λ h m. c * monomial_times n (unit_element g) h m)
            (λ e h m. c * monomial_times n (found.0 (upper G e)) h m)
            (boundary_of_tuple G (low_sum G F x d (term ∷ [])))
            (λ e h m. omega (arith, shift-times c (found.0 (upper G e) h) n m))
            (has_boundary_times G F x d c (monomial_times n (unit_element g))
            (λ e. monomial_times n (found.0 (upper G e)))
            (has_boundary_monomial G F x start k d n (unit_element g) (boundary_of_tuple G found.0) wide is has.1
            found.2));
      }

  -- what stands at generators of lower degrees has the boundary of a low sum
  low_remainder : ((e : ℕ) → e < d → IsReached G F x e) → (u : Element) → Low (remainder (F.degrees x) d u)
  low_remainder reached u =
      holds_of_element G.prime G.rank (F.degrees x) d wide Low low_same low_zero low_plus (remainder (F.degrees x) d u)
      (λ g k n has is. elim (cases_eq k 0) [
        | inl none ↦
            let own : slice_index (F.degrees x) g ≡ d = omega (arith, has.1) in
            let gone : remainder (F.degrees x) d u g n ≡ 0 =
            cond-true {A = ℕ} (eqb (slice_index (F.degrees x) g) d) 0 (u g n)
            (eq-eqb (slice_index (F.degrees x) g) d own) in
            low_same zero_element (λ h m. remainder (F.degrees x) d u g n * monomial_times n (unit_element g) h m)
            (equal_same G.prime G.rank (F.degrees x) d zero_element
            (λ h m. remainder (F.degrees x) d u g n * monomial_times n (unit_element g) h m)
            (λ h m. nothing (remainder (F.degrees x) d u g n) (monomial_times n (unit_element g) h m) gone))
            low_zero
        | inr some ↦ low_multiple reached (remainder (F.degrees x) d u g n) g k n has is (omega arith)
      ])
    where
      nothing : (a b : ℕ) → a ≡ 0 → 0 ≡ a * b
      nothing a b e = rw e (omega arith)

  -- the boundary of the constants is the combination of the generators' boundaries
  constants_boundary : (c : ℕ → ℕ) → HasBoundary G F x d (constants (F.degrees x) d c) (generator_boundary G F x d c)
  constants_boundary c =
      boundary_same G F x d (boundary_of_element G F d (constants (F.degrees x) d c)) (generator_boundary G F x d c)
      (λ e below from.
      let P : ℕ → Type 0 =
      λ y. SameAtUpper G F e d (lift_of G F e d (constants (F.degrees y) d c))
      (λ h m. sum_below (λ g. cond (eqb (slice_index (F.degrees y) g) d) (c g * F.lift e g h m) 0)
      (length (F.degrees y))) in
      subst P from (λ h s has m is. ap (λ z. z % G.prime)
      (extension-constants (F.degrees (lower G e)) d G.rank (F.lift e) c h s m wide is)))

  -- a low sum has the boundary of an element with no constants at generators of degree d
  record Lowered (terms : List (LowTerm G F x d)) : Type 0 where
    element : Element
    boundary : HasBoundary G F x d element (boundary_of_tuple G (low_sum G F x d terms))
    absent : (g : ℕ) → element g (zeros 6) ≡ 0

  lowered : ((e : ℕ) → e < d → IsLifted G F x e) → (terms : List (LowTerm G F x d)) → Lowered terms
  unfolding low_sum
  lowered lifted [] = record { element = zero_element; boundary = has_boundary_zero G F x d; absent = λ g. refl }
  lowered lifted (t ∷ ts) =
      let sizes = t.sizes in
      let positive = t.positive in
      let smaller : t.degree < d = omega arith in
      let found = (lifted t.degree smaller).lifted t.values t.is_section in
      let rest = lowered lifted ts in
      record {
        element = λ g m. monomial_times t.monomial found.0 g m + rest.element g m;
        boundary =
            has_boundary_plus G F x d (monomial_times t.monomial found.0) rest.element
            (λ e. monomial_times t.monomial (t.values (upper G e))) (boundary_of_tuple G (low_sum G F x d ts))
            (has_boundary_monomial G F x t.degree t.size d t.monomial found.0 (boundary_of_tuple G t.values) wide
            t.is_monomial t.sizes found.1) rest.boundary;
        absent = λ g. omega (
          arith,
          shift_below G.rank t.size 0 t.monomial (zeros 6) (found.0 g) t.is_monomial (one_monomial G.rank)
              t.positive,
          rest.absent g,
        );
      }

  pub count_is_dimension : 0 < G.prime → ((e : ℕ) → e ≤ d → IsLifted G F x e) → ((e : ℕ) → e < d → IsReached G F x e) →
      IsMinimal G F x d → CountIsDimension G F x d
  count_is_dimension some lifted reached minimal = record {
    spanned = λ s is.
        let found = (lifted d (omega arith)).lifted s is in
        let u = found.0 in
        let c : ℕ → ℕ = λ g. u g (zeros 6) in
        let low = low_remainder reached u in
        let sum : Boundary =
        λ e h m. generator_boundary G F x d c e h m + boundary_of_tuple G (low_sum G F x d low.terms) e h m in (
          c,
          low.terms,
          boundary_chained G F x d (boundary_of_tuple G s) (boundary_of_element G F d u) sum
              (boundary_turned G F x d (boundary_of_element G F d u) (boundary_of_tuple G s) some found.1)
              (has_boundary_same G F x d u (λ g m. constants (F.degrees x) d c g m + remainder (F.degrees x) d u g m)
              sum wide (two_parts (F.degrees x) d G.prime G.rank u wide)
              (has_boundary_plus G F x d (constants (F.degrees x) d c) (remainder (F.degrees x) d u)
              (generator_boundary G F x d c) (boundary_of_tuple G (low_sum G F x d low.terms))
              (constants_boundary c) low.boundary)),
        );
    independent = λ c low same g below is_new.
        let v = lowered (λ e less. lifted e (omega arith)) low in
        let difference : Element = λ h m. constants (F.degrees x) d c h m + (G.prime - 1) * v.element h m in
        let whole : HasBoundary G F x d (constants (F.degrees x) d c) (boundary_of_tuple G (low_sum G F x d low)) =
        boundary_chained G F x d (boundary_of_element G F d (constants (F.degrees x) d c))
        (generator_boundary G F x d c) (boundary_of_tuple G (low_sum G F x d low)) (constants_boundary c) same in
        let gone : SameMod G.prime (difference g (zeros 6)) 0 =
        minimal.minimal difference
        (has_boundary_less G F x d (constants (F.degrees x) d c) v.element
        (boundary_of_tuple G (low_sum G F x d low)) some whole v.boundary) g below is_new in
        let own : constants (F.degrees x) d c g (zeros 6) ≡ c g =
        cond-true {A = ℕ} (eqb (slice_index (F.degrees x) g) d) (c g) 0
        (eq-eqb (slice_index (F.degrees x) g) d is_new) in
        ap (λ z. z % G.prime)
        (sym (left (c g) (constants (F.degrees x) d c g (zeros 6)) (G.prime - 1) (v.element g (zeros 6)) own
        (v.absent g))) ∙ gone;
  }
    where
      left : (c a q b : ℕ) → a ≡ c → b ≡ 0 → a + q * b ≡ c
      left c a q b e f = rw (e, f) (omega arith)
