-- Positions of a tuple over a set of vertices, and the values of the edge equations. The set is given by a test. In the
-- order to read:
--   TestsAbove G x U             the test U is true at the vertices above x, and at no others
--   TestsLonger G l U            the test U is true at the vertices longer than l, and at no others
--   position_start G F U d y     where the coordinates of the value at y stand, the vertices of U in rising order
--   position_count G F U d       how many positions there are
--   tuple_of G F U d numbers     the tuple with these numbers at its positions
--   equation_start G F U d e     where the equations of the edge e stand: one for each coordinate of its edge module,
--                                for the edges with both ends in U, in their order
--   AreEquationValues ..         edge coordinates of the lift of the lower value less those of the upper value
-- A tuple is a section exactly where all its equations' values are 0.
use Rattle.std.specs.Prelude.{◌↔◌, ℕ, ◌+◌, ◌<◌, Bool, ◌&&◌, if◌then◌else◌, IsTrue}
use Rattle.bmp_math.specs.Sums.{sum_below}
use Rattle.bmp_math.specs.Congruences.{SameMod}
use Rattle.bmp_graph.specs.Graph.{Graph, IsAbove, vertex_count, edge_count, length_at, lower, upper, label}
use Rattle.bmp_sheaf.specs.Sheaves.{SheafData, Tuple, lift_of}
use Rattle.bmp_sheaf.specs.Elements.{Element}
use Rattle.bmp_sheaf.specs.Coordinates.{leading, stalk_count, element_of, edge_module_count, AreEdgeCoordinates}

abbrev pub TestsAbove : Graph → ℕ → (ℕ → Bool) → Type 0
TestsAbove G x U = (y : ℕ) → y < vertex_count G → (IsTrue (U y) ↔ IsAbove G y x)

abbrev pub TestsLonger : Graph → ℕ → (ℕ → Bool) → Type 0
TestsLonger G l U = (y : ℕ) → y < vertex_count G → (IsTrue (U y) ↔ (l < length_at G y))

module _ (G : Graph) (F : SheafData) (U : ℕ → Bool) (d : ℕ) where
  abbrev pub position_start : ℕ → ℕ
  position_start y = sum_below (λ z. if U z then stalk_count G.rank (F.degrees z) d else 0) y

  abbrev pub position_count : ℕ
  position_count = position_start (vertex_count G)

  abbrev pub tuple_of : (ℕ → ℕ) → Tuple
  tuple_of numbers y = element_of G.rank (F.degrees y) d (λ i. numbers (position_start y + i))

  abbrev pub equation_start : ℕ → ℕ
  equation_start e = sum_below (λ f. if U (lower G f) && U (upper G f) then edge_module_count G F d f else 0) e

  abbrev pub equation_count : ℕ
  equation_count = equation_start (edge_count G)

  -- the coordinates of an element in the edge module of e
  abbrev pub OnEdge : ℕ → Element → (ℕ → ℕ) → Type 0
  OnEdge e a numbers = AreEdgeCoordinates G.prime G.rank (label G e) (leading G e) (F.degrees (upper G e)) d a numbers

  -- upper and lower name the coordinates of the two values on the edge
  pub record AreEquationsOn (s : Tuple) (values : ℕ → ℕ) (e : ℕ) : Type 0 where
    pub from_lower : ℕ → ℕ
    pub from_upper : ℕ → ℕ
    pub lower_is : OnEdge e (lift_of G F e d (s (lower G e))) from_lower
    pub upper_is : OnEdge e (s (upper G e)) from_upper
    pub below : (i : ℕ) → i < edge_module_count G F d e → values (equation_start e + i) < G.prime
    pub difference : (i : ℕ) → i < edge_module_count G F d e →
        SameMod G.prime (values (equation_start e + i) + from_upper i) (from_lower i)

  abbrev pub AreEquationValues : Tuple → (ℕ → ℕ) → Type 0
  AreEquationValues s values = (e : ℕ) → e < edge_count G → IsTrue (U (lower G e)) → IsTrue (U (upper G e)) →
      AreEquationsOn s values e
