-- How many edges go up from the vertices below a number: edges stand in the order of their lower ends.
use Rattle.std.proofs.Common.{◌≡◌, ℕ, zero, suc, ◌+◌, cond, eqb, ltb, refl, sym, ap₂, ◌∙◌, inl, inr, arith, eq-eqb, ne_eqb}
use Rattle.std.proofs.lemmas.Bool.{cases_eq, cases_lt, cond-true, cond-false, lt-ltb, le-ltb}
use Rattle.bmp_math.specs.Sums.{sum_below}
use Rattle.bmp_math.proofs.SumLemmas.{sum_below_same, sum_below-add, sum_below-zeros}
use Rattle.bmp_graph.specs.Graph.{Graph, IsGraph, IsUpRange, vertex_count, edge_count, lower}
use Rattle.bmp_sheaf.specs.Written.{first_edge}
use Rattle.bmp_sheaf.proofs.UpEdges.{first_edge_is, up_count_is}

ones : (n : ℕ) → sum_below (λ i. 1) n ≡ n
unfolding sum_below
ones zero = refl
ones (suc n) = omega (arith, ones n)

module _ (G : Graph) where
  pub first_edge-zero : first_edge G 0 ≡ 0
  first_edge-zero =
      sum_below_same (λ e. cond (ltb (lower G e) 0) 1 0) (λ e. 0) (edge_count G)
      (λ e l. cond-false {A = ℕ} (ltb (lower G e) 0) 1 0 (le-ltb (lower G e) 0 (omega arith)))
      ∙ sum_below-zeros (edge_count G)

  pub first_edge-all : IsGraph G → first_edge G (vertex_count G) ≡ edge_count G
  first_edge-all is =
      sum_below_same (λ e. cond (ltb (lower G e) (vertex_count G)) 1 0) (λ e. 1) (edge_count G)
      (λ e l. cond-true {A = ℕ} (ltb (lower G e) (vertex_count G)) 1 0
      (lt-ltb (lower G e) (vertex_count G) (is.ends e l).0))
      ∙ ones (edge_count G)

  next_term : (z y : ℕ) → cond (ltb z (y + 1)) 1 0 ≡ cond (ltb z y) 1 0 + cond (eqb z y) 1 0
  next_term z y = elim (cases_lt z y) [
    | inl before ↦
        cond-true {A = ℕ} (ltb z (y + 1)) 1 0 (lt-ltb z (y + 1) (omega arith))
        ∙ sym (ap₂ (λ a b. a + b) (cond-true {A = ℕ} (ltb z y) 1 0 (lt-ltb z y before))
        (cond-false {A = ℕ} (eqb z y) 1 0 (ne_eqb z y (λ same. absurd (omega arith)))))
    | inr from ↦
        elim (cases_eq z y) [
          | inl same ↦
              cond-true {A = ℕ} (ltb z (y + 1)) 1 0 (lt-ltb z (y + 1) (omega arith))
              ∙ sym (ap₂ (λ a b. a + b) (cond-false {A = ℕ} (ltb z y) 1 0 (le-ltb z y from))
              (cond-true {A = ℕ} (eqb z y) 1 0 (eq-eqb z y same)))
          | inr other ↦
              cond-false {A = ℕ} (ltb z (y + 1)) 1 0 (le-ltb z (y + 1) (omega arith))
              ∙ sym (ap₂ (λ a b. a + b) (cond-false {A = ℕ} (ltb z y) 1 0 (le-ltb z y from))
              (cond-false {A = ℕ} (eqb z y) 1 0 (ne_eqb z y other)))
        ]
  ]

  -- the edges from y end where those of the next vertex begin
  pub first_edge_next : (y from to : ℕ) → IsUpRange G y from to → first_edge G (y + 1) ≡ to
  first_edge_next y from to range =
      sum_below_same (λ e. cond (ltb (lower G e) (y + 1)) 1 0)
      (λ e. cond (ltb (lower G e) y) 1 0 + cond (eqb (lower G e) y) 1 0) (edge_count G)
      (λ e l. next_term (lower G e) y)
      ∙ sum_below-add (λ e. cond (ltb (lower G e) y) 1 0) (λ e. cond (eqb (lower G e) y) 1 0) (edge_count G)
      ∙ omega (arith, first_edge_is G y from to range, up_count_is G y from to range, range.ordered)
