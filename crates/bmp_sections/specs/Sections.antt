-- Sections of a sheaf F on a moment graph G, and the three conditions at a vertex x in degree d
-- (Braden-MacPherson 2001). In the order to read:
--   IsSection G F U d s     the tuple s is a section of degree d over the set U of vertices
--   above G x               the set of the vertices above x
--   IsReached G F x d       each element has the boundary of a section over the vertices above x
--   IsLifted G F x d        each section over the vertices above x has the boundary of an element
--   IsMinimal G F x d       an element with zero boundary has the coefficient 0 at each generator of degree d
-- They speak of all elements of the stalk at x and of all sections, of degree d.
use Rattle.std.specs.Prelude.{◌≡◌, ℕ, ◌<◌, length, slice_index}
use Rattle.bmp_math.specs.Congruences.{SameMod}
use Rattle.bmp_poly.specs.Exponents.{zeros}
use Rattle.bmp_graph.specs.Graph.{Graph, IsAbove, edge_count, lower, upper}
use Rattle.bmp_sheaf.specs.Elements.{Element, zero_element}
use Rattle.bmp_sheaf.specs.Sheaves.{SheafData, Tuple, lift_of, EqualOnEdge, boundary_of_element, boundary_of_tuple, SameBoundary}

-- the vertices above x
abbrev pub above : Graph → ℕ → ℕ → Type 0
above G x y = IsAbove G y x

module _ (G : Graph) (F : SheafData) where
  -- on each edge with both ends in U, the lift of the lower value and the upper value are equal
  abbrev pub IsSection : (ℕ → Type 0) → ℕ → Tuple → Type 0
  IsSection U d s =
      (e : ℕ) → e < edge_count G → U (lower G e) → U (upper G e) →
      EqualOnEdge G F e d (lift_of G F e d (s (lower G e))) (s (upper G e))

  pub record IsReached (x d : ℕ) : Type 0 where
    pub reached : (u : Element) → (s : Tuple) × IsSection (above G x) d s ×
        SameBoundary G F x d (boundary_of_element G F d u) (boundary_of_tuple G s)

  pub record IsLifted (x d : ℕ) : Type 0 where
    pub lifted : (s : Tuple) → IsSection (above G x) d s →
        (u : Element) × SameBoundary G F x d (boundary_of_element G F d u) (boundary_of_tuple G s)

  -- the coefficient at a generator of degree d is that of the monomial 1
  pub record IsMinimal (x d : ℕ) : Type 0 where
    pub minimal :
        (u : Element) → SameBoundary G F x d (boundary_of_element G F d u) (λ e. zero_element) →
        (g : ℕ) → g < length (F.degrees x) → slice_index (F.degrees x) g ≡ d → SameMod G.prime (u g (zeros 6)) 0
