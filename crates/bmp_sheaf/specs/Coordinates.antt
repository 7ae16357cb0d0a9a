-- Coordinates of elements and of boundaries. In the order to read:
--   stalk_count r degrees d            how many coordinates an element of degree d has
--   stalk_place r degrees d g m        the place of the coefficient of the monomial m at generator g
--   element_of r degrees d numbers     the element with these coordinates
--   edge_count_of, edge_place          the same for the monomials without the label's leading variable l
--   AreEdgeCoordinates ..              the numbers are the coefficients of the normal forms of an element's components
--   leading G e                        the place of the leading variable of the label of e
--   boundary_start G F x d e           where the coordinates of the edge e stand among the boundary coordinates of x
-- Generators go before monomials, and monomials in the order of their listing. All counts are of degree d.
use Rattle.std.specs.Prelude.{◌≡◌, ℕ, ◌+◌, ◌-◌, ◌%◌, ◌==◌, nat_le, if◌then◌else◌, List, length, slice_index, map, remove}
use Rattle.bmp_math.specs.Sums.{sum_below}
use Rattle.bmp_poly.specs.Exponents.{IsMonomial, count, place}
use Rattle.bmp_poly.specs.Forms.{Form, IsNormalForm}
use Rattle.bmp_graph.specs.Graph.{Graph, edge_count, lower, upper}
use Rattle.bmp_graph.specs.declared.edge.Edge.{Edge}
use Rattle.bmp_poly.specs.Labels.{leading_of}
use Rattle.bmp_sheaf.specs.Elements.{Element, HasComponent}
use Rattle.bmp_sheaf.specs.Sheaves.{SheafData}

-- how many monomials in r variables the polynomial at a generator of degree e has: none where e is above d
abbrev pub component_count : ℕ → ℕ → ℕ → ℕ
component_count r d e = if nat_le e d then count r (d - e) else 0

module _ (r : ℕ) (degrees : List ℕ) (d : ℕ) where
  -- how many coordinates come before those of generator g
  abbrev pub stalk_start : ℕ → ℕ
  stalk_start g = sum_below (λ h. component_count r d (slice_index degrees h)) g

  abbrev pub stalk_count : ℕ
  stalk_count = stalk_start (length degrees)

  abbrev pub stalk_place : ℕ → List ℕ → ℕ
  stalk_place g m = stalk_start g + place r m

  abbrev pub element_of : (ℕ → ℕ) → Element
  element_of numbers g m = numbers (stalk_place g m)

-- monomials in r variables without the variable l are those in one variable fewer
abbrev pub edge_place : ℕ → ℕ → List ℕ → ℕ → ℕ → List ℕ → ℕ
edge_place r l degrees d g m = stalk_place (r - 1) degrees d g (remove m l)

-- at each generator some normal form has the numbers as its coefficients
abbrev pub AreEdgeCoordinates : ℕ → ℕ → (ℕ → ℕ) → ℕ → List ℕ → ℕ → Element → (ℕ → ℕ) → Type 0
AreEdgeCoordinates p r c l degrees d a numbers =
    (g s : ℕ) → HasComponent degrees d g s →
    (b : Form) × IsNormalForm p 6 r s c l (a g) b
    × ((m : List ℕ) → IsMonomial 6 r s m → slice_index m l ≡ 0 → numbers (edge_place r l degrees d g m) ≡ b m % p)

-- the place of the first coordinate of the label of e that is not 0
abbrev pub leading : Graph → ℕ → ℕ
leading G e = slice_index (map (λ (d : Edge). leading_of d.label) G.edges) e

module _ (G : Graph) (F : SheafData) where
  -- how many coordinates the edge module of e has in degree d
  abbrev pub edge_module_count : ℕ → ℕ → ℕ
  edge_module_count d e = stalk_count (G.rank - 1) (F.degrees (upper G e)) d

  abbrev pub boundary_start : ℕ → ℕ → ℕ → ℕ
  boundary_start x d e = sum_below (λ f. if lower G f == x then edge_module_count d f else 0) e

  abbrev pub boundary_count : ℕ → ℕ → ℕ
  boundary_count x d = boundary_start x d (edge_count G)
