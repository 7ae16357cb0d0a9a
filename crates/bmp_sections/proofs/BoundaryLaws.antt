-- Boundaries at a vertex: the relation is an equivalence that sums, multiples, combinations and monomials keep,
-- and the boundary of an element is linear in it.
use Rattle.std.proofs.Common.{◌≡◌, ℕ, ◌+◌, ◌-◌, ◌*◌, ◌<◌, ◌≤◌, List, length, sym, subst}
use Rattle.std.specs.Prelude.{slice_index}
use Rattle.bmp_math.specs.Sums.{sum_below}
use Rattle.bmp_poly.specs.Exponents.{IsMonomial}
use Rattle.bmp_graph.specs.Graph.{Graph, edge_count, lower, upper, label}
use Rattle.bmp_sheaf.specs.Elements.{Element, SameElement, zero_element, monomial_times}
use Rattle.bmp_sheaf.specs.Units.{unit_element}
use Rattle.bmp_sheaf.specs.Sheaves.{SheafData, Boundary, lift_of, boundary_of_element, SameBoundary}
use Rattle.bmp_sheaf.proofs.ElementLaws.{same_congruent, same_cancelled, congruent_turned, congruent_chained, congruent_plus, congruent_times, congruent_combination, congruent_monomial}
use Rattle.bmp_sheaf.proofs.LiftLaws.{SameAtUpper, lift_unit, lifts_same, lifts_zero, lifts_plus, lifts_times, lifts_combination, lifts_monomial}

module _ (G : Graph) (F : SheafData) (x : ℕ) where
  -- boundaries whose elements are the same
  pub boundary_same : (d : ℕ) (b c : Boundary) →
      ((e : ℕ) → e < edge_count G → lower G e ≡ x → SameAtUpper G F e d (b e) (c e)) → SameBoundary G F x d b c
  boundary_same d b c same e below from =
      same_congruent G.prime G.rank (F.degrees (upper G e)) (label G e) d (b e) (c e) (same e below from)

  pub boundary_turned : (d : ℕ) (b c : Boundary) → 0 < G.prime → SameBoundary G F x d b c → SameBoundary G F x d c b
  boundary_turned d b c some h e below from =
      congruent_turned G.prime G.rank (F.degrees (upper G e)) (label G e) d (b e) (c e) some (h e below from)

  pub boundary_chained : (d : ℕ) (a b c : Boundary) → SameBoundary G F x d a b → SameBoundary G F x d b c →
      SameBoundary G F x d a c
  boundary_chained d a b c h f e below from =
      congruent_chained G.prime G.rank (F.degrees (upper G e)) (label G e) d (a e) (b e) (c e) (h e below from)
      (f e below from)

  pub boundary_plus : (d : ℕ) (a b a' b' : Boundary) → SameBoundary G F x d a a' → SameBoundary G F x d b b' →
      SameBoundary G F x d (λ e g m. a e g m + b e g m) (λ e g m. a' e g m + b' e g m)
  boundary_plus d a b a' b' h f e below from =
      congruent_plus G.prime G.rank (F.degrees (upper G e)) (label G e) d (a e) (b e) (a' e) (b' e) (h e below from)
      (f e below from)

  pub boundary_times : (d y : ℕ) (b c : Boundary) → SameBoundary G F x d b c →
      SameBoundary G F x d (λ e g m. y * b e g m) (λ e g m. y * c e g m)
  boundary_times d y b c h e below from =
      congruent_times G.prime G.rank (F.degrees (upper G e)) (label G e) d y (b e) (c e) (h e below from)

  pub boundary_combination : (d : ℕ) (y : ℕ → ℕ) (b c : ℕ → Boundary) (n : ℕ) →
      ((j : ℕ) → j < n → SameBoundary G F x d (b j) (c j)) →
      SameBoundary G F x d (λ e g m. sum_below (λ j. y j * b j e g m) n) (λ e g m. sum_below (λ j. y j * c j e g m) n)
  boundary_combination d y b c n h e below from =
      congruent_combination G.prime G.rank (F.degrees (upper G e)) (label G e) d y (λ j. b j e) (λ j. c j e) n
      (λ j within. h j within e below from)

  pub boundary_monomial : (d k t : ℕ) (n : List ℕ) (b c : Boundary) → IsMonomial 6 G.rank k n → d + k ≡ t →
      SameBoundary G F x d b c → SameBoundary G F x t (λ e. monomial_times n (b e)) (λ e. monomial_times n (c e))
  boundary_monomial d k t n b c is_n total h e below from =
      congruent_monomial G.prime G.rank (F.degrees (upper G e)) (label G e) d k t n (b e) (c e) is_n total
      (h e below from)

  -- b is the boundary of u
  abbrev pub HasBoundary : ℕ → Element → Boundary → Type 0
  HasBoundary d u b = SameBoundary G F x d (boundary_of_element G F d u) b

  pub has_boundary_same : (d : ℕ) (u v : Element) (b : Boundary) → G.rank ≤ 6 →
      SameElement G.prime G.rank (F.degrees x) d u v → HasBoundary d v b → HasBoundary d u b
  has_boundary_same d u v b wide same h e below from =
      lifts_same G F e d u v (b e) wide (subst (λ y. SameElement G.prime G.rank (F.degrees y) d u v) (sym from) same)
      (h e below from)

  pub has_boundary_zero : (d : ℕ) → HasBoundary d zero_element (λ e. zero_element)
  has_boundary_zero d e below from = lifts_zero G F e d

  pub has_boundary_plus : (d : ℕ) (u v : Element) (b c : Boundary) → HasBoundary d u b → HasBoundary d v c →
      HasBoundary d (λ g m. u g m + v g m) (λ e g m. b e g m + c e g m)
  has_boundary_plus d u v b c h f e below from = lifts_plus G F e d u v (b e) (c e) (h e below from) (f e below from)

  pub has_boundary_times : (d y : ℕ) (u : Element) (b : Boundary) → HasBoundary d u b →
      HasBoundary d (λ g m. y * u g m) (λ e g m. y * b e g m)
  has_boundary_times d y u b h e below from = lifts_times G F e d y u (b e) (h e below from)

  pub has_boundary_combination : (d : ℕ) (y : ℕ → ℕ) (u : ℕ → Element) (b : ℕ → Boundary) (n : ℕ) →
      ((j : ℕ) → j < n → HasBoundary d (u j) (b j)) →
      HasBoundary d (λ g m. sum_below (λ j. y j * u j g m) n) (λ e g m. sum_below (λ j. y j * b j e g m) n)
  has_boundary_combination d y u b n h e below from =
      lifts_combination G F e d y u (λ j. b j e) n (λ j within. h j within e below from)

  pub has_boundary_monomial : (d k t : ℕ) (n : List ℕ) (u : Element) (b : Boundary) → G.rank ≤ 6 →
      IsMonomial 6 G.rank k n → d + k ≡ t → HasBoundary d u b →
      HasBoundary t (monomial_times n u) (λ e. monomial_times n (b e))
  has_boundary_monomial d k t n u b wide is_n total h e below from =
      lifts_monomial G F e d k t n u (b e) wide is_n total (h e below from)

  -- two elements with one boundary: the one less the other has zero boundary
  pub has_boundary_less : (d : ℕ) (u v : Element) (b : Boundary) → 0 < G.prime → HasBoundary d u b → HasBoundary d v b →
      HasBoundary d (λ g m. u g m + (G.prime - 1) * v g m) (λ e. zero_element)
  has_boundary_less d u v b some h f =
      boundary_chained d (boundary_of_element G F d (λ g m. u g m + (G.prime - 1) * v g m))
      (λ e g m. b e g m + (G.prime - 1) * b e g m) (λ e. zero_element)
      (has_boundary_plus d u (λ g m. (G.prime - 1) * v g m) b (λ e g m. (G.prime - 1) * b e g m) h
      (has_boundary_times d (G.prime - 1) v b f))
      (boundary_same d (λ e g m. b e g m + (G.prime - 1) * b e g m) (λ e. zero_element)
      (λ e below from. same_cancelled G.prime G.rank (F.degrees (upper G e)) d (b e) some))

  -- the boundary of a generator is made of its lifts
  pub has_boundary_unit : (g : ℕ) → G.rank ≤ 6 → g < length (F.degrees x) →
      HasBoundary (slice_index (F.degrees x) g) (unit_element g) (λ e. F.lift e g)
  has_boundary_unit g wide below =
      boundary_same (slice_index (F.degrees x) g)
      (boundary_of_element G F (slice_index (F.degrees x) g) (unit_element g)) (λ e. F.lift e g)
      (λ e is_edge from.
      let P : ℕ → Type 0 =
      λ y. g < length (F.degrees y) →
      SameAtUpper G F e (slice_index (F.degrees y) g) (lift_of G F e (slice_index (F.degrees y) g) (unit_element g))
      (F.lift e g) in
      subst P from (lift_unit G F e g wide) below)
