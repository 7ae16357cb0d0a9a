-- Sections over a set are closed under sums, multiples, combinations and monomials, and are sections over each subset.
use Rattle.std.proofs.Common.{◌≡◌, ℕ, ◌+◌, ◌*◌, ◌<◌, ◌≤◌, List}
use Rattle.bmp_math.specs.Sums.{sum_below}
use Rattle.bmp_poly.specs.Exponents.{IsMonomial}
use Rattle.bmp_graph.specs.Graph.{Graph, lower, upper}
use Rattle.bmp_sheaf.specs.Elements.{zero_element, monomial_times}
use Rattle.bmp_sheaf.specs.Sheaves.{SheafData, Tuple}
use Rattle.bmp_sheaf.proofs.LiftLaws.{lifts_zero, lifts_plus, lifts_times, lifts_combination, lifts_monomial}
use Rattle.bmp_sections.specs.Sections.{IsSection}

module _ (G : Graph) (F : SheafData) where
  module _ (U : ℕ → Type 0) where
    pub section_zero : (d : ℕ) → IsSection G F U d (λ y. zero_element)
    section_zero d e below low up = lifts_zero G F e d

    pub section_plus : (d : ℕ) (s t : Tuple) → IsSection G F U d s → IsSection G F U d t →
        IsSection G F U d (λ y g m. s y g m + t y g m)
    section_plus d s t h f e below low up =
        lifts_plus G F e d (s (lower G e)) (t (lower G e)) (s (upper G e)) (t (upper G e)) (h e below low up)
        (f e below low up)

    pub section_times : (d x : ℕ) (s : Tuple) → IsSection G F U d s → IsSection G F U d (λ y g m. x * s y g m)
    section_times d x s h e below low up = lifts_times G F e d x (s (lower G e)) (s (upper G e)) (h e below low up)

    pub section_combination : (d : ℕ) (c : ℕ → ℕ) (t : ℕ → Tuple) (n : ℕ) →
        ((j : ℕ) → j < n → IsSection G F U d (t j)) → IsSection G F U d (λ y g m. sum_below (λ j. c j * t j y g m) n)
    section_combination d c t n h e below low up =
        lifts_combination G F e d c (λ j. t j (lower G e)) (λ j. t j (upper G e)) n
        (λ j within. h j within e below low up)

    pub section_monomial : (d k t : ℕ) (n : List ℕ) (s : Tuple) → G.rank ≤ 6 → IsMonomial 6 G.rank k n → d + k ≡ t →
        IsSection G F U d s → IsSection G F U t (λ y. monomial_times n (s y))
    section_monomial d k t n s wide is_n total h e below low up =
        lifts_monomial G F e d k t n (s (lower G e)) (s (upper G e)) wide is_n total (h e below low up)

  pub section_subset : (U V : ℕ → Type 0) (d : ℕ) (s : Tuple) → ((y : ℕ) → V y → U y) → IsSection G F U d s →
      IsSection G F V d s
  section_subset U V d s inside h e below low up = h e below (inside (lower G e) low) (inside (upper G e) up)
