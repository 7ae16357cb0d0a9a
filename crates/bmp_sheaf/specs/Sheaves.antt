-- Sheaves on a moment graph (Braden-MacPherson 2001), by their generators and lifts. In the order to read:
--   SheafData                  the degrees of each vertex's generators, and the lift of each generator on each edge
--   lift_of G F e d u          the lift of the element u, of degree d, on the edge e going up from its vertex
--   EqualOnEdge G F e d a b    two elements at the upper end of e are equal on e: the label divides each component of a
--                              less b
--   Tuple, Boundary            an element for each vertex; an element at the upper end of each edge
--   boundary_of_element G F d u    the lifts of u, on each edge
--   boundary_of_tuple G s          the values of s at the upper ends of the edges
--   SameBoundary G F x d b c   the boundaries b and c are equal on each edge going up from x
-- Vertices, edges and generators count from 0; an edge's ends, its label and the prime are those of the graph G.
use Rattle.std.specs.Prelude.{◌≡◌, ℕ, ◌<◌, List}
use Rattle.bmp_graph.specs.Graph.{Graph, edge_count, lower, upper, label}
use Rattle.bmp_sheaf.specs.Elements.{Element, CongruentElement, extension}

-- the stalk at x is the free module with generators of the degrees; lift e g is an element of the upper end's stalk, of
-- the degree of the generator g of the lower end
pub record SheafData : Type 0 where
  pub degrees : ℕ → List ℕ
  pub lift : ℕ → ℕ → Element

abbrev pub Tuple : Type 0
Tuple = ℕ → Element

abbrev pub Boundary : Type 0
Boundary = ℕ → Element

module _ (G : Graph) (F : SheafData) where
  abbrev pub lift_of : ℕ → ℕ → Element → Element
  lift_of e d u = extension G.rank (F.degrees (lower G e)) (F.lift e) d u

  abbrev pub EqualOnEdge : ℕ → ℕ → Element → Element → Type 0
  EqualOnEdge e d a b = CongruentElement G.prime G.rank (F.degrees (upper G e)) (label G e) d a b

  abbrev pub boundary_of_element : ℕ → Element → Boundary
  boundary_of_element d u e = lift_of e d u

  abbrev pub SameBoundary : ℕ → ℕ → Boundary → Boundary → Type 0
  SameBoundary x d b c = (e : ℕ) → e < edge_count G → lower G e ≡ x → EqualOnEdge e d (b e) (c e)

abbrev pub boundary_of_tuple : Graph → Tuple → Boundary
boundary_of_tuple G s e = s (upper G e)
