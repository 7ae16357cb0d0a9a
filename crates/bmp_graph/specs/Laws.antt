-- The laws of what lies above a vertex, as statements.
--   EdgesRise            the upper end of an edge has the greater number
--   AboveIsTransitive    what is above a vertex above x is above x
--   AboveIsHigher        what is above x is a vertex with a greater number and a greater length
--   AboveIsIrreflexive   no vertex is above itself
--   AboveByEdges         y is above x where an edge leads from x up to y, or to a vertex that y is above
use Rattle.std.specs.Prelude.{◌≡◌, ℕ, ◌<◌, ◌↔◌, ◌⊎◌}
use Rattle.bmp_graph.specs.Graph.{Graph, vertex_count, edge_count, length_at, lower, upper, IsGraph, IsAbove}

abbrev pub EdgesRise : Type 0
EdgesRise = (g : Graph) → IsGraph g → (e : ℕ) → e < edge_count g → lower g e < upper g e

abbrev pub AboveIsTransitive : Type 0
AboveIsTransitive = (g : Graph) (z y x : ℕ) → IsAbove g z y → IsAbove g y x → IsAbove g z x

pub record IsHigher (g : Graph) (y x : ℕ) : Type 0 where
  pub number : x < y
  pub is_vertex : y < vertex_count g
  pub longer : length_at g x < length_at g y

abbrev pub AboveIsHigher : Type 0
AboveIsHigher = (g : Graph) → IsGraph g → (y x : ℕ) → IsAbove g y x → IsHigher g y x

abbrev pub AboveIsIrreflexive : Type 0
AboveIsIrreflexive = (g : Graph) → IsGraph g → (x : ℕ) → IsAbove g x x → ⊥

abbrev pub AboveByEdges : Type 0
AboveByEdges = (g : Graph) (y x : ℕ) →
    IsAbove g y x ↔ ((e : ℕ) × (e < edge_count g) × (lower g e ≡ x) × ((upper g e ≡ y) ⊎ IsAbove g y (upper g e)))
