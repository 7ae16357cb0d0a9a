-- The test of what is above a vertex; and the equations over an upward closed set, counted by their edges' lower ends.
use Rattle.std.proofs.Common.{◌≡◌, ◌↔◌, ℕ, zero, suc, ◌+◌, ◌-◌, ◌<◌, ◌≤◌, ◌⊎◌, ◌&&◌, ◌||◌, Bool, true, false, cond, eqb, true≢false, refl, sym, ap, ap₂, subst, ◌∙◌, inl, inr, arith, eq-eqb, ne_eqb, eqb-true}
use Rattle.std.proofs.lemmas.Bool.{cases_eq, cases_Bool, or_cases, or_left, or_right, and_parts, and_from, and_left, cond-true, cond-false}
use Rattle.bmp_math.specs.Sums.{sum_below}
use Rattle.bmp_math.proofs.SumLemmas.{sum_below_same, sum_below-zeros, sum_below-swap, sum_below_joined, sum_below_only, sum_below-suc}
use Rattle.bmp_graph.specs.Graph.{Graph, IsGraph, IsAbove, vertex_count, edge_count, lower, upper}
use Rattle.bmp_graph.proofs.GraphLemmas.{IsAbove-by_edge, IsAbove-from_edge, IsAbove-higher, IsAbove-trans, edge_rises, lower_rises}
use Rattle.bmp_graph.specs.Graph.IsAbove.{edge}
use Rattle.bmp_sheaf.specs.Sheaves.{SheafData}
use Rattle.bmp_sheaf.specs.Coordinates.{edge_module_count, boundary_start, boundary_count}
use Rattle.bmp_sections.specs.Positions.{equation_start, equation_count}
use Rattle.bmp_sections.specs.Numbers.{some_below, reaches, is_above}
use Rattle.bmp_sections.specs.Statements.{AboveIsTested}

some_found : (test : ℕ → Bool) (n k : ℕ) → k < n → test k ≡ true → some_below test n ≡ true
unfolding some_below
some_found test zero k below is = absurd (omega arith)
some_found test (suc n) k below is =
    elim (cases_eq k n) [
      | inl last ↦ or_right (some_below test n) (test n) (ap test (sym last) ∙ is)
      | inr other ↦ or_left (some_below test n) (test n) (some_found test n k (omega arith) is)
    ]

some_one : (test : ℕ → Bool) (n : ℕ) → some_below test n ≡ true → (k : ℕ) × (k < n) × (test k ≡ true)
unfolding some_below
some_one test zero h = absurd (true≢false (sym h))
some_one test (suc n) h =
    elim (or_cases (some_below test n) (test n) h) [
      | inl earlier ↦ let found = some_one test n earlier in (found.0, omega (arith, found.1), found.2)
      | inr last ↦ (n, omega arith, last)
    ]

module _ (G : Graph) where
  -- the test of one edge of a chain
  abbrev leads : ℕ → ℕ → ℕ → ℕ → Bool
  leads n x y e = eqb (lower G e) x && (eqb (upper G e) y || reaches G n (upper G e) y)

  reached_is_above : (n x y : ℕ) → reaches G n x y ≡ true → IsAbove G y x
  unfolding reaches
  reached_is_above zero x y h = absurd (true≢false (sym h))
  reached_is_above (suc n) x y h =
      let found : (e : ℕ) × (e < edge_count G) × (leads n x y e ≡ true) = some_one (leads n x y) (edge_count G) h in
      let e = found.0 in
      let parts = and_parts (eqb (lower G e) x) (eqb (upper G e) y || reaches G n (upper G e) y) found.2 in
      IsAbove-from_edge G y x e found.1 (eqb-true (lower G e) x parts.0)
      (elim (or_cases (eqb (upper G e) y) (reaches G n (upper G e) y) parts.1) [
        | inl ends ↦ inl (eqb-true (upper G e) y ends)
        | inr on ↦ inr (reached_is_above n (upper G e) y on)
      ])

  -- each edge of a chain raises the number, so that n edges are enough where x + n is past all vertices
  above_is_reached : IsGraph G → (n x y : ℕ) → vertex_count G ≤ n + x → IsAbove G y x → reaches G n x y ≡ true
  unfolding reaches
  above_is_reached is zero x y past above =
      let higher = IsAbove-higher G is y x above in absurd (omega (arith, higher.number, higher.is_vertex))
  above_is_reached is (suc n) x y past above =
      let found : (e : ℕ) × (e < edge_count G) × (lower G e ≡ x) × ((upper G e ≡ y) ⊎ IsAbove G y (upper G e)) =
      IsAbove-by_edge G y x above in
      let e = found.0 in
      let rises : lower G e < upper G e = edge_rises G is e found.1 in
      let starts : lower G e ≡ x = found.2 in
      some_found (leads n x y) (edge_count G) e found.1
      (and_from (eqb (lower G e) x) (eqb (upper G e) y || reaches G n (upper G e) y) (eq-eqb (lower G e) x starts)
      (elim found.3 [
        | inl ends ↦ or_left (eqb (upper G e) y) (reaches G n (upper G e) y) (eq-eqb (upper G e) y ends)
        | inr on ↦ or_right (eqb (upper G e) y) (reaches G n (upper G e) y)
            (above_is_reached is n (upper G e) y (omega arith) on)
      ]))

  pub above_from_test : (x y : ℕ) → is_above G x y ≡ true → IsAbove G y x
  unfolding is_above
  above_from_test x y h = reached_is_above (vertex_count G) x y h

  pub test_from_above : IsGraph G → (x y : ℕ) → IsAbove G y x → is_above G x y ≡ true
  unfolding is_above
  test_from_above is x y above = above_is_reached is (vertex_count G) x y (omega arith) above

  -- the vertices above x are upward closed
  pub upper_is_above : IsGraph G → (x e : ℕ) → e < edge_count G → is_above G x (lower G e) ≡ true →
      is_above G x (upper G e) ≡ true
  upper_is_above is x e below low =
      test_from_above is x (upper G e)
      (IsAbove-trans G (upper G e) (lower G e) x (edge e below refl) (above_from_test x (lower G e) low))

-- what answers whether a vertex is above x is the test
pub test_is : (G H : Graph) → IsGraph G → H ≡ G → (x y : ℕ) (b : Bool) → ((b ≡ true) ↔ IsAbove H y x) →
    is_above G x y ≡ b
test_is G H is same x y true answers = test_from_above G is x y (subst (λ g. IsAbove g y x) same (answers.0 refl))
test_is G H is same x y false answers = elim (cases_Bool (is_above G x y)) [
  | inl here ↦ absurd
      (true≢false (sym (answers.1 (subst (λ g. IsAbove g y x) (sym same) (above_from_test G x y here)))))
  | inr out ↦ out
]

pub above_is_tested : AboveIsTested
above_is_tested G is x y below = (above_from_test G x y, test_from_above G is x y)

-- with the lower end of an edge, its upper end is in the set
pub record IsUpwardClosed (G : Graph) (U : ℕ → Bool) : Type 0 where
  pub upward : (e : ℕ) → e < edge_count G → U (lower G e) ≡ true → U (upper G e) ≡ true

pub above_is_closed : (G : Graph) → IsGraph G → (x : ℕ) → IsUpwardClosed G (is_above G x)
above_is_closed G is x = record { upward = upper_is_above G is x }

pub both_ends : (G : Graph) (U : ℕ → Bool) → IsUpwardClosed G U → (e : ℕ) → e < edge_count G →
    (U (lower G e) && U (upper G e)) ≡ U (lower G e)
both_ends G U closed e below =
    elim (cases_Bool (U (lower G e))) [
      | inl low ↦ and_from (U (lower G e)) (U (upper G e)) low (closed.upward e below low) ∙ sym low
      | inr out ↦ and_left (U (lower G e)) (U (upper G e)) out ∙ sym out
    ]

-- a sum whose terms are 0 from a number on
sum_until : (f : ℕ → ℕ) (m n : ℕ) → m ≤ n → ((i : ℕ) → m ≤ i → i < n → f i ≡ 0) → sum_below f n ≡ sum_below f m
sum_until f m n within none =
    let rest : m + (n - m) ≡ n = omega arith in
    ap (sum_below f) (sym rest) ∙ sum_below_joined f m (n - m)
    ∙ ap (λ z. sum_below f m + z)
    (sum_below_same (λ i. f (m + i)) (λ i. 0) (n - m) (λ i l. none (m + i) (omega arith) (omega arith))
    ∙ sum_below-zeros (n - m))
    ∙ omega arith

module _ (G : Graph) (F : SheafData) (d : ℕ) where
  -- the coordinates of the edge f, where it goes up from y
  abbrev part : ℕ → ℕ → ℕ
  part y f = cond (eqb (lower G f) y) (edge_module_count G F d f) 0

  part_none : (y f : ℕ) → (lower G f ≡ y → ⊥) → part y f ≡ 0
  part_none y f other =
      cond-false {A = ℕ} (eqb (lower G f) y) (edge_module_count G F d f) 0 (ne_eqb (lower G f) y other)

  part_whole : (f : ℕ) → part (lower G f) f ≡ edge_module_count G F d f
  part_whole f = cond-true {A = ℕ} (eqb (lower G f) (lower G f)) (edge_module_count G F d f) 0
      (eq-eqb (lower G f) (lower G f) refl)

  -- behind an edge from a greater vertex stand no more coordinates at y, and before one from a smaller vertex none
  boundary_all : IsGraph G → (y e : ℕ) → e < edge_count G → y < lower G e →
      boundary_start G F y d e ≡ boundary_count G F y d
  boundary_all is y e below after =
      sym (sum_until (part y) e (edge_count G) (omega arith)
      (λ f from to. part_none y f (λ same. let rises = lower_rises G is e f from to in omega arith)))

  boundary_none : IsGraph G → (y e : ℕ) → e < edge_count G → lower G e < y → boundary_start G F y d e ≡ 0
  boundary_none is y e below before =
      sum_below_same (part y) (λ f. 0) e
      (λ f to. part_none y f (λ same. let rises = lower_rises G is f e (omega arith) below in omega arith))
      ∙ sum_below-zeros e

  module _ (U : ℕ → Bool) (is : IsGraph G) (closed : IsUpwardClosed G U) where
    abbrev equations : ℕ → ℕ
    equations f = cond (U (lower G f) && U (upper G f)) (edge_module_count G F d f) 0

    -- the part of f at its own lower end is all of it
    by_lower : (f : ℕ) → f < edge_count G → equations f ≡ sum_below (λ y. cond (U y) (part y f) 0) (vertex_count G)
    by_lower f below =
        ap (λ b. cond b (edge_module_count G F d f) 0) (both_ends G U closed f below)
        ∙ ap (λ z. cond (U (lower G f)) z 0) (sym (part_whole f))
        ∙ sym (sum_below_only (λ y. cond (U y) (part y f) 0) (vertex_count G) (lower G f) (is.ends f below).0
        (λ y l other. none (U y) (part y f) (part_none y f (λ same. other (sym same)))))
      where
        none : (b : Bool) (z : ℕ) → z ≡ 0 → cond b z 0 ≡ 0
        none true z h = h
        none false z h = refl

    chosen_sum : (b : Bool) (f : ℕ → ℕ) (n : ℕ) → sum_below (λ i. cond b (f i) 0) n ≡ cond b (sum_below f n) 0
    chosen_sum true f n = refl
    chosen_sum false f n = sum_below-zeros n

    -- the equations of the edges before e, by their lower ends
    start_by_lower : (e : ℕ) → e ≤ edge_count G →
        equation_start G F U d e ≡ sum_below (λ y. cond (U y) (boundary_start G F y d e) 0) (vertex_count G)
    start_by_lower e within =
        sum_below_same equations (λ f. sum_below (λ y. cond (U y) (part y f) 0) (vertex_count G)) e
        (λ f l. by_lower f (omega arith))
        ∙ sum_below-swap (λ f y. cond (U y) (part y f) 0) e (vertex_count G)
        ∙ sum_below_same (λ y. sum_below (λ f. cond (U y) (part y f) 0) e)
        (λ y. cond (U y) (boundary_start G F y d e) 0) (vertex_count G) (λ y l. chosen_sum (U y) (part y) e)

    -- as many equations as boundary coordinates at the vertices of the set
    pub equation_count_is : equation_count G F U d ≡ sum_below (λ y. cond (U y) (boundary_count G F y d) 0)
        (vertex_count G)
    equation_count_is = start_by_lower (edge_count G) (omega arith)

    pub equation_start_is :
        (e : ℕ) → e < edge_count G → U (lower G e) ≡ true →
        equation_start G F U d e ≡ sum_below (λ y. cond (U y) (boundary_count G F y d) 0) (lower G e) + boundary_start G
        F (lower G e) d e
    equation_start_is e below low =
        let y = lower G e in
        let f : ℕ → ℕ = λ z. cond (U z) (boundary_start G F z d e) 0 in
        let within : lower G e < vertex_count G = (is.ends e below).0 in
        start_by_lower e (omega arith)
        ∙ sum_until f (suc y) (vertex_count G) (omega arith)
        (λ z from to. later (U z) (boundary_start G F z d e) (boundary_none is z e below (omega arith)))
        ∙ sum_below-suc f y
        ∙ ap₂ (λ a b. a + b)
        (sum_below_same f (λ z. cond (U z) (boundary_count G F z d) 0) y
        (λ z l. ap (λ n. cond (U z) n 0) (boundary_all is z e below l)))
        (cond-true {A = ℕ} (U y) (boundary_start G F y d e) 0 low)
      where
        later : (b : Bool) (z : ℕ) → z ≡ 0 → cond b z 0 ≡ 0
        later true z h = h
        later false z h = refl
