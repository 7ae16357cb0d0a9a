-- Coordinates of boundaries: edge after edge going up from a vertex, they decide what is the same boundary, and are
-- linear.
use Rattle.std.proofs.Common.{◌≡◌, ◌↔◌, ℕ, ◌+◌, ◌*◌, ◌%◌, ◌<◌, cond, eqb, sym, ap, subst, ◌∙◌, inl, inr, arith, eq-eqb, ne_eqb}
use Rattle.std.proofs.lemmas.Bool.{cases_eq, cond-true, cond-false}
use Rattle.bmp_math.specs.Sums.{sum_below}
use Rattle.bmp_math.specs.Congruences.{SameMod}
use Rattle.bmp_math.specs.Vectors.{SameVector}
use Rattle.bmp_math.proofs.SumLemmas.{sum_below_same}
use Rattle.bmp_math.proofs.BlockLemmas.{InBlock, block_of, joined_at, joined_each, within_blocks}
use Rattle.bmp_graph.specs.Graph.{Graph, edge_count, lower, upper}
use Rattle.bmp_sheaf.specs.Fields.{IsOverField}
use Rattle.bmp_sheaf.specs.Elements.{SameElement, zero_element}
use Rattle.bmp_sheaf.specs.Sheaves.{SheafData, Boundary, SameBoundary}
use Rattle.bmp_sheaf.specs.Coordinates.{edge_module_count, boundary_start, boundary_count}
use Rattle.bmp_sheaf.specs.Numbers.{on_edge, boundary_number}
use Rattle.bmp_sheaf.proofs.OnEdge.{on_edge_below, on_edge_same, same_on_edge, on_edge_respects, on_edge-zero, on_edge-combination}

-- k is where the coordinate `place` of an edge going up from x stands among those of x
pub record IsBoundaryPlace (G : Graph) (F : SheafData) (x d k : ℕ) : Type 0 where
  pub edge : ℕ
  pub place : ℕ
  pub is_edge : edge < edge_count G
  pub starts : lower G edge ≡ x
  pub inside : place < edge_module_count G F d edge
  pub is : boundary_start G F x d edge + place ≡ k

module _ (G : Graph) (F : SheafData) (x d : ℕ) where
  -- how many coordinates the edge e has among those of x
  abbrev size : ℕ → ℕ
  size e = cond (eqb (lower G e) x) (edge_module_count G F d e) 0

  inside_size : (e i : ℕ) → lower G e ≡ x → i < edge_module_count G F d e → i < size e
  inside_size e i starts inside =
      omega (
        arith,
        inside,
        cond-true {A = ℕ} (eqb (lower G e) x) (edge_module_count G F d e) 0 (eq-eqb (lower G e) x starts),
      )

  size_inside : (e i : ℕ) → i < size e → (lower G e ≡ x) × (i < edge_module_count G F d e)
  size_inside e i inside = elim (cases_eq (lower G e) x) [
    | inl starts ↦ (
      starts,
      omega (
        arith,
        inside,
        cond-true {A = ℕ} (eqb (lower G e) x) (edge_module_count G F d e) 0 (eq-eqb (lower G e) x starts),
      ),
    )
    | inr other ↦ absurd
        (omega (
          arith,
          inside,
          cond-false {A = ℕ} (eqb (lower G e) x) (edge_module_count G F d e) 0 (ne_eqb (lower G e) x other),
        ))
  ]

  pub boundary_place_of : (k : ℕ) → k < boundary_count G F x d → IsBoundaryPlace G F x d k
  boundary_place_of k below =
      let in_block : InBlock size (edge_count G) k = block_of size (edge_count G) k below in
      let within = size_inside in_block.block in_block.place in_block.inside in
      record {
        edge = in_block.block;
        place = in_block.place;
        is_edge = in_block.below;
        starts = within.0;
        inside = within.1;
        is = sym in_block.is;
      }

  pub boundary_place_below : (e i : ℕ) → e < edge_count G → lower G e ≡ x → i < edge_module_count G F d e →
      boundary_start G F x d e + i < boundary_count G F x d
  boundary_place_below e i is_edge starts inside =
      within_blocks size (edge_count G) e i is_edge (inside_size e i starts inside)

  -- a fact of each place of each edge is one of each place
  pub each_boundary_place : (P : ℕ → Type 0) →
      ((e i : ℕ) → e < edge_count G → lower G e ≡ x → i < edge_module_count G F d e → P (boundary_start G F x d e + i))
      → (k : ℕ) → k < boundary_count G F x d → P k
  each_boundary_place P each k below = let at : IsBoundaryPlace G F x d k = boundary_place_of k below in
      subst P at.is (each at.edge at.place at.is_edge at.starts at.inside)

  -- the numbers of one edge
  pub boundary_number_at : (b : Boundary) (e i : ℕ) → e < edge_count G → lower G e ≡ x → i < edge_module_count G F d e →
      boundary_number G F x d b (boundary_start G F x d e + i) ≡ on_edge G F d e (b e) i
  boundary_number_at b e i is_edge starts inside =
      joined_at size (λ f. on_edge G F d f (b f)) (edge_count G) e i is_edge (inside_size e i starts inside)

  module _ (over : IsOverField G) where
    abbrev pub numbers : Boundary → ℕ → ℕ
    numbers b = boundary_number G F x d b

    pub boundary_number_below : (b : Boundary) (k : ℕ) → numbers b k < G.prime
    boundary_number_below b k =
        joined_each size (λ e. on_edge G F d e (b e)) (λ z. z < G.prime) (edge_count G) (omega (arith, over.two))
        (λ e i is_edge. on_edge_below G over F d e is_edge (b e) i) k

    -- they decide
    pub boundary_numbers_same : (b c : Boundary) → SameBoundary G F x d b c → (k : ℕ) → k < boundary_count G F x d →
        numbers b k ≡ numbers c k
    boundary_numbers_same b c same =
        each_boundary_place (λ k. numbers b k ≡ numbers c k)
        (λ e i is_edge starts inside.
        boundary_number_at b e i is_edge starts inside
        ∙ on_edge_same G over F d e is_edge (b e) (c e) (same e is_edge starts) i inside
        ∙ sym (boundary_number_at c e i is_edge starts inside))

    pub same_boundary_numbers : (b c : Boundary) → ((k : ℕ) → k < boundary_count G F x d → numbers b k ≡ numbers c k) →
        SameBoundary G F x d b c
    same_boundary_numbers b c same e is_edge starts =
        same_on_edge G over F d e is_edge (b e) (c e)
        (λ i inside.
        sym (boundary_number_at b e i is_edge starts inside)
        ∙ same (boundary_start G F x d e + i) (boundary_place_below e i is_edge starts inside)
        ∙ boundary_number_at c e i is_edge starts inside)

    pub boundary_numbers_decide : (b c : Boundary) → SameBoundary G F x d b c ↔
        ((k : ℕ) → k < boundary_count G F x d → numbers b k ≡ numbers c k)
    boundary_numbers_decide b c = (boundary_numbers_same b c, same_boundary_numbers b c)

    -- they are those of the elements on the edges
    pub boundary_number_respects : (b c : Boundary) →
        ((e : ℕ) → e < edge_count G → lower G e ≡ x → SameElement G.prime G.rank (F.degrees (upper G e)) d (b e) (c e))
        → (k : ℕ) → k < boundary_count G F x d → numbers b k ≡ numbers c k
    boundary_number_respects b c same =
        each_boundary_place (λ k. numbers b k ≡ numbers c k)
        (λ e i is_edge starts inside.
        boundary_number_at b e i is_edge starts inside
        ∙ on_edge_respects G over F d e is_edge (b e) (c e) (same e is_edge starts) i inside
        ∙ sym (boundary_number_at c e i is_edge starts inside))

    pub boundary_number-zero : (k : ℕ) → k < boundary_count G F x d → numbers (λ e. zero_element) k ≡ 0
    boundary_number-zero =
        each_boundary_place (λ k. numbers (λ e. zero_element) k ≡ 0)
        (λ e i is_edge starts inside. boundary_number_at (λ e. zero_element) e i is_edge starts inside
        ∙ on_edge-zero G over F d e is_edge i inside)

    pub boundary_number-combination : (c : ℕ → ℕ) (b : ℕ → Boundary) (n : ℕ) →
        SameVector G.prime (boundary_count G F x d) (numbers (λ e g m. sum_below (λ j. c j * b j e g m) n))
        (λ k. sum_below (λ j. c j * numbers (b j) k) n)
    boundary_number-combination c b n =
        each_boundary_place
        (λ k. SameMod G.prime (numbers (λ e g m. sum_below (λ j. c j * b j e g m) n) k)
        (sum_below (λ j. c j * numbers (b j) k) n))
        (λ e i is_edge starts inside.
        ap (λ z. z % G.prime)
        (boundary_number_at (λ e g m. sum_below (λ j. c j * b j e g m) n) e i is_edge starts inside)
        ∙ on_edge-combination G over F d e is_edge c (λ j. b j e) n i inside
        ∙ ap (λ z. z % G.prime)
        (sym (sum_below_same (λ j. c j * numbers (b j) (boundary_start G F x d e + i))
        (λ j. c j * on_edge G F d e (b j e) i) n
        (λ j below. ap (λ z. c j * z) (boundary_number_at (b j) e i is_edge starts inside)))))
