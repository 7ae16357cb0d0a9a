-- Laws of the definitions, as statements.
--   EdgeCoordinatesDecide        two elements are congruent by a label exactly where their edge coordinates agree, each
--                                at its own place
--   EdgeNumbersAreCoordinates    the numbers on an edge are edge coordinates of the element
--   EdgeNumbersAreSmall          and below the prime
--   BoundaryNumbersDecide        two boundaries are the same exactly where their numbers are
--   LowerMatrixIsOfLift, UpperMatrixIsOfElement, BoundaryMatrixIsOfBoundary
--                                what the matrix says of an element's coordinates are the numbers, on the edge or in
--                                the boundary, of its lift, of itself, and of its boundary
use Rattle.std.specs.Prelude.{◌≡◌, ◌↔◌, ℕ, suc, ◌%◌, ◌<◌, ◌≤◌, List, slice_index}
use Rattle.bmp_math.specs.Matrices.{image}
use Rattle.bmp_poly.specs.Exponents.{IsMonomial}
use Rattle.bmp_poly.specs.Forms.{IsLabel}
use Rattle.bmp_graph.specs.Graph.{Graph, edge_count, lower, upper, label}
use Rattle.bmp_sheaf.specs.Fields.{IsOverField}
use Rattle.bmp_sheaf.specs.Elements.{Element, HasComponent, CongruentElement}
use Rattle.bmp_sheaf.specs.Sheaves.{SheafData, Boundary, SameBoundary, lift_of, boundary_of_element}
use Rattle.bmp_sheaf.specs.Coordinates.{AreEdgeCoordinates, edge_place, element_of, leading, edge_module_count, boundary_count}
use Rattle.bmp_sheaf.specs.Numbers.{on_edge, boundary_number, lower_matrix, upper_matrix, boundary_matrix}

-- the numbers count modulo q + 1, for which the leading coordinate has an inverse
abbrev pub EdgeCoordinatesDecide : Type 0
EdgeCoordinatesDecide =
    (q r l d : ℕ) (c : ℕ → ℕ) (degrees : List ℕ) (a b : Element) (m n : ℕ → ℕ) → IsLabel (suc q) r c l → r ≤ 6 →
    AreEdgeCoordinates (suc q) r c l degrees d a m → AreEdgeCoordinates (suc q) r c l degrees d b n →
    CongruentElement (suc q) r degrees c d a b
    ↔ ((g s : ℕ) (e : List ℕ) → HasComponent degrees d g s → IsMonomial 6 r s e → slice_index e l ≡ 0 →
    m (edge_place r l degrees d g e) ≡ n (edge_place r l degrees d g e))

abbrev pub EdgeNumbersAreCoordinates : Type 0
EdgeNumbersAreCoordinates =
    (G : Graph) (F : SheafData) (d e : ℕ) (a : Element) → IsOverField G → e < edge_count G →
    AreEdgeCoordinates G.prime G.rank (label G e) (leading G e) (F.degrees (upper G e)) d a (on_edge G F d e a)

abbrev pub EdgeNumbersAreSmall : Type 0
EdgeNumbersAreSmall =
    (G : Graph) (F : SheafData) (d e : ℕ) (a : Element) (i : ℕ) → IsOverField G → e < edge_count G →
    on_edge G F d e a i < G.prime

abbrev pub BoundaryNumbersDecide : Type 0
BoundaryNumbersDecide =
    (G : Graph) (F : SheafData) (x d : ℕ) (b c : Boundary) → IsOverField G →
    SameBoundary G F x d b c ↔
    ((k : ℕ) → k < boundary_count G F x d → boundary_number G F x d b k ≡ boundary_number G F x d c k)

-- u is the coordinates of an element of degree d at the lower end, at the upper end, and at x
abbrev pub LowerMatrixIsOfLift : Type 0
LowerMatrixIsOfLift =
    (G : Graph) (F : SheafData) (d e : ℕ) (u : ℕ → ℕ) (i : ℕ) → IsOverField G → e < edge_count G →
    i < edge_module_count G F d e →
    image (lower_matrix G F d e) u i
    % G.prime ≡ on_edge G F d e (lift_of G F e d (element_of G.rank (F.degrees (lower G e)) d u)) i

abbrev pub UpperMatrixIsOfElement : Type 0
UpperMatrixIsOfElement =
    (G : Graph) (F : SheafData) (d e : ℕ) (u : ℕ → ℕ) (i : ℕ) → IsOverField G → e < edge_count G →
    i < edge_module_count G F d e →
    image (upper_matrix G F d e) u i % G.prime ≡ on_edge G F d e (element_of G.rank (F.degrees (upper G e)) d u) i

abbrev pub BoundaryMatrixIsOfBoundary : Type 0
BoundaryMatrixIsOfBoundary =
    (G : Graph) (F : SheafData) (x d : ℕ) (u : ℕ → ℕ) (k : ℕ) → IsOverField G → k < boundary_count G F x d →
    image (boundary_matrix G F x d) u k
    % G.prime ≡ boundary_number G F x d (boundary_of_element G F d (element_of G.rank (F.degrees x) d u)) k
